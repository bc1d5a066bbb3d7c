-- Lookups of what is lent with another table in the place of the target's: in that table by what its granule reads, elsewhere as before.
use mathlib.Core.Path.{◌≡◌, sym, ap, ap₂, ◌∙◌, subst}
use mathlib.Core.Bool.{true}
use mathlib.Core.List.{List}
use Prim.Native.Nat.{ℕ, ◌+◌, ◌<◌}
use native.Mathlib.Decide.{ℕ_discrete, dec_lt}
use native.Mathlib.Omega.{arith}
use lib.ListN.{length}
use Rattle.std.specs.Prelude.{Ok, Some}
use Rattle.gpi.specs.declared.Gpi.{Gpi}
use Rattle.theory.specs.Normal.{at}
use Rattle.theory.proofs.Arena.{table_word, laid-before, laid-after}
use Rattle.l1.specs.L1.{read_at}
use Rattle.config.specs.declared.Widths.{Widths}
use Rattle.config.specs.Fields.{supported_of}
use Rattle.config.specs.Index.{l0_index, l1_index, granule_index}
use Rattle.config.proofs.Geometry.{l0_in}
use Rattle.resolve.specs.declared.Call.TheVariants.{Plain}
use Rattle.resolve.specs.declared.Site.{Site}
use Rattle.resolve.specs.declared.Place.TheVariants.{Table}
use Rattle.resolve.specs.Lent.{Lent, placed, table_in, lay_in, Names}
use Rattle.resolve.proofs.Found.{site_at, Found, found, lay_length, lay_table, lay_place}
use Rattle.gpt.specs.Lookup.{lookup_of, read_in}
use Rattle.gpt.proofs.Reading.{same_answer, answers}
use Rattle.cut_and_mend.specs.Demand3.{TableAt, Ready}

-- the table of an address that lies in one
pub table_of : {q : Lent} {x : ℕ} {w : Widths} {s : Site} → Found q x w s → TableAt w q (l0_index w x) s.start
table_of {x = x} {w = w} f = record { entry = l0_in w f.listed x; names = f.entry; inside = rw f.words at f.sited.fits }

-- the widths are the configuration's
pub found_as : {q : Lent} {x : ℕ} {w : Widths} {s : Site} → Found q x w s → (y : ℕ) (v : Site) → placed q y ≡ Ok (Table v) → Found q y w v
found_as {q} {x} {w} {s} f y v e =
    let r = found q Plain y v e in
    let k : Ok r.0 ≡ Ok w = sym r.1.configured ∙ f.configured in
    let k : r.0 ≡ w = cc in
    subst (λ (m : Widths). Found q y m v) k r.1

module _ {q : Lent} {x : ℕ} {w : Widths} {s : Site} (f : Found q x w s) (T : List ℕ) (len : length T ≡ s.words) where
  -- where the target's granule is read, a supported GPI that is read there is the answer
  pub looks_new : (y : ℕ) → Names w x y → (g : Gpi) → l1_index w y ≡ s.index → granule_index w y ≡ s.granule
      → read_at (at T s.index) s.granule ≡ Some g → supported_of q.config g ≡ true → lookup_of (lay_in q s T) y ≡ Ok g
  looks_new y n g i j r u =
      answers (lay_in q s T) y (site_at w s y) g (lay_place f T len y n)
      (ap (λ (t : List ℕ). read_at (at t (l1_index w y)) (granule_index w y)) (lay_table f T len)
      ∙ ap₂ (λ (m n : ℕ). read_at (at T m) n) i j ∙ r)
      u

  module _ (ready : Ready q x) (y : ℕ)
      (same : Names w x y
      → read_at (at T (l1_index w y)) (granule_index w y) ≡ read_at (at (table_in q s) (l1_index w y)) (granule_index w y)) where
    -- in the target's table, where the granule reads as before
    here : Names w x y → (v : Site) → placed q y ≡ Ok (Table v) → read_in (lay_in q s T) v ≡ read_in q v
    here n v e =
        let k : Ok (Table v) ≡ Ok (Table (site_at w s y)) = sym e ∙ f.place y n in
        let k : v ≡ site_at w s y = cc in
        rw k (ap (λ (t : List ℕ). read_at (at t (l1_index w y)) (granule_index w y)) (lay_table f T len) ∙ same n)

    -- in another entry's, which shares no word with it
    away : (l0_index w y ≡ l0_index w x → ⊥) → (v : Site) → Found q y w v → read_in (lay_in q s T) v ≡ read_in q v
    away d v g =
        ap (λ (m : ℕ). read_at m v.granule)
        (table_word v.start v.words (lay_in q s T).arena v.index g.sited.index
        ∙ go (dec_lt (v.start + v.index) s.start) (dec_lt (v.start + v.index) (s.start + s.words))
        ∙ sym (table_word v.start v.words q.arena v.index g.sited.index))
      where
        go : Dec (v.start + v.index < s.start) → Dec (v.start + v.index < s.start + s.words)
            → at (lay_in q s T).arena (v.start + v.index) ≡ at q.arena (v.start + v.index)
        go (yes h) k = laid-before s.start s.words q.arena f.sited.fits T len (v.start + v.index) h
        go (no h) (yes k) =
            let i = g.sited.index in
            absurd (d (sym (ready.apart w f.configured s.start (l0_index w y) v.start (v.start + v.index) (table_of f)
            (table_of g)
            (record { from = omega arith; to = omega (arith, f.words) }) (record { from = omega arith; to = omega (arith, g.words) }))))
        go (no h) (no k) = laid-after s.start s.words q.arena f.sited.fits T len (v.start + v.index) (omega arith)

    -- So it looks up as before.
    pub looks_same : lookup_of (lay_in q s T) y ≡ lookup_of q y
    looks_same =
        same_answer q y (lay_in q s T).arena (lay_length f T len)
        (λ v e. let g = found_as f y v e in go v e g (ℕ_discrete (l0_index w y) (l0_index w x)))
      where
        go : (v : Site) → placed q y ≡ Ok (Table v) → Found q y w v → Dec (l0_index w y ≡ l0_index w x) → read_in (lay_in q s T) v ≡ read_in q v
        go v e g (yes d) = here (record { below = g.below; entry = d }) v e
        go v e g (no d) = away d v g
