-- A mend changes no lookup, whatever it is lent: every store of it keeps what its word reads.
use mathlib.Core.Path.{◌≡◌, refl, sym, ap, ◌∙◌}
use mathlib.Core.List.{List, map}
use Prim.Native.Nat.{ℕ, ◌+◌}
use borrow.Rule.Slice.PartMut.{put_same}
use Rattle.theory.specs.Normal.{at}
use Rattle.theory.specs.Mend.{mend}
use Rattle.theory.proofs.Lists.{map_at, map-length}
use Rattle.theory.proofs.Mend.{flat-mend}
use Rattle.theory.proofs.Arena.{table_word, map-laid}
use Rattle.l1.specs.L1.{read_at, flat}
use Rattle.l1.proofs.Alike.{same_reading}
use Rattle.config.specs.Format.{format_of}
use Rattle.config.proofs.Format.{format_laws}
use Rattle.resolve.specs.declared.Call.TheVariants.{Plain}
use Rattle.resolve.specs.declared.Site.{Site}
use Rattle.resolve.specs.Lent.{Lent, over, placed, table_in}
use Rattle.resolve.proofs.Found.{found}
use Rattle.gpt.specs.Lookup.{read_in, lookup_of}
use Rattle.gpt.proofs.Reading.{same_answer}
use Rattle.mend.specs.Outcome.{named_by, mended_at, mend_of}
use Rattle.mend.proofs.Sites.{sited}
use Rattle.std.specs.Prelude.{Err, Ok, Result}
use Rattle.resolve.specs.declared.Refusal.{Refusal}
use Rattle.resolve.specs.declared.Place.TheVariants.{Table}

-- arenas of one flat arena answer alike
pub same_flat : (q : Lent) (A : List ℕ) (y : ℕ) → map flat A ≡ map flat q.arena → lookup_of (over q A) y ≡ lookup_of q y
same_flat q A y e = same_answer q y A (map-length flat A q.arena e) alike
  where
    alike : (s : Site) → placed q y ≡ Ok (Table s) → read_in (over q A) s ≡ read_in q s
    alike s p =
        let h = (found q Plain y s p).1.sited in
        ap (λ (w : ℕ). read_at w s.granule) (table_word s.start s.words A s.index h.index)
        ∙ same_reading (at A (s.start + s.index)) (at q.arena (s.start + s.index)) s.granule h.granule
        (map_at flat A q.arena e (s.start + s.index))
        ∙ sym (ap (λ (w : ℕ). read_at w s.granule) (table_word s.start s.words q.arena s.index h.index))

-- ---- THE THEOREMS

module _ (q : Lent) (x k : ℕ) where
  -- A mend, refused or not, leaves every word of the arena reading as it did.
  pub flat-mended : map flat (mend_of q x k).left.arena ≡ map flat q.arena
  unfolding mend_of mended_at
  flat-mended = go (named_by (placed q x)) refl
    where
      go : (p : Result Site Refusal) → named_by (placed q x) ≡ p → map flat (mended_at q k p).left.arena ≡ map flat q.arena
      go (Err r) e = refl
      go (Ok s) e =
          map-laid flat s.start s.words q.arena (mend (format_of q.config) s.unit k (table_in q s)) (table_in q s)
          (flat-mend (format_of q.config) (format_laws q.config) s.unit (sited q x s e).unit_least k (table_in q s))
          ∙ ap (map flat) (put_same s.start s.words q.arena)

  -- It keeps the configuration, the L0 words and the base.
  pub mend-over : (mend_of q x k).left ≡ over q (mend_of q x k).left.arena
  unfolding mend_of mended_at
  mend-over = go (named_by (placed q x))
    where
      go : (p : Result Site Refusal) → (mended_at q k p).left ≡ over q (mended_at q k p).left.arena
      go (Err r) = refl
      go (Ok s) = refl

  -- So every address looks up as before, the refused ones too.
  pub mend-looks : (y : ℕ) → lookup_of (mend_of q x k).left y ≡ lookup_of q y
  mend-looks y = ap (λ (r : Lent). lookup_of r y) mend-over ∙ same_flat q (mend_of q x k).left.arena y flat-mended
