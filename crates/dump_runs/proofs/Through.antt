-- What a table's view reads is what a lookup answers.
use mathlib.Core.Path.{◌≡◌, refl, sym, ap, ap₂, ◌∙◌, subst}
use Prim.Native.Nat.{ℕ, ◌%◌, ◌^◌}
use lib.ListN.{get_or, take, drop}
use Rattle.std.specs.Prelude.{None, Ok, Option, Result, Some}
use Rattle.gpi.specs.declared.Gpi.{Gpi}
use Rattle.l1.specs.L1.{read_at}
use Rattle.config.specs.declared.Config.{Config}
use Rattle.config.specs.declared.Widths.{Widths}
use Rattle.config.specs.Fields.{configured_of}
use Rattle.config.specs.Index.{l1_index, granule_index}
use Rattle.resolve.specs.declared.Call.TheVariants.{Plain}
use Rattle.resolve.specs.declared.Site.{Site}
use Rattle.resolve.specs.declared.Refusal.{Refusal}
use Rattle.resolve.specs.declared.Place.TheVariants.{Table}
use Rattle.resolve.specs.Lent.{Lent, placed, table_in}
use Rattle.resolve.proofs.Found.{Found, found, table_length}
use Rattle.gpt.specs.Lookup.{judged, looked_at, lookup_of}
use Rattle.view.specs.declared.NoGpi.{NoGpi}
use Rattle.view.specs.Reads.{held_by, held_at}
use Rattle.view.proofs.Spots.{taken_width, held-of_address}
use Rattle.dump_runs.specs.Inner.{answer_of}

-- a granule's answer by what the view holds
by_reading : (c : Config) (r : Option Gpi) → answer_of c (held_by r) ≡ judged c r
by_reading c (Some g) = refl
by_reading c None = refl

module _ (q : Lent) (x : ℕ) (w : Widths) (o : configured_of q.config ≡ Ok w) (s : Site) (e : placed q x ≡ Ok (Table s)) where
  here : Found q x w s
  here =
      let r = found q Plain x s e in
      let k : r.0 ≡ w = (let z : Ok r.0 ≡ Ok w = sym r.1.configured ∙ o in cc) in
      subst (λ (v : Widths). Found q x v s) k r.1

  -- view and lookup say the same
  pub view_is_lookup : answer_of q.config (held_at (table_in q s) w.pgs (x % 2 ^ w.l0gptsz)) ≡ lookup_of q x
  unfolding lookup_of looked_at
  view_is_lookup =
      let f = here in
      let t = table_in q s in
      rw e (ap (answer_of q.config) (held-of_address w f.listed (taken_width q.config w o) t (table_length f ∙ f.words) x)
      ∙ by_reading q.config (read_at (get_or t (l1_index w x) 0) (granule_index w x))
      ∙ ap₂ (λ (m h : ℕ). judged q.config (read_at (get_or t m 0) h)) (sym f.index) (sym f.granule))

  -- as `piece_at` has it: the table's length and the distance as they were computed
  pub answered : {r : Result Gpi Refusal} {h : Result Gpi NoGpi} {n d : ℕ} → r ≡ answer_of q.config h
      → h ≡ held_at (take n (drop s.start q.arena)) w.pgs d
      → n ≡ s.words → d ≡ x % 2 ^ w.l0gptsz → r ≡ looked_at q (Ok (Table s))
  unfolding lookup_of
  answered i j k l =
      i ∙ ap (answer_of q.config) (j ∙ ap₂ (λ (m t : ℕ). held_at (take m (drop s.start q.arena)) w.pgs t) k l)
      ∙ view_is_lookup ∙ ap (looked_at q) e
