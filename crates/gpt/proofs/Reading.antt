-- What a lookup takes from the arena: its length, and what the one word reads at the one granule. Demand 3 rests on it.
use mathlib.Core.Path.{◌≡◌, refl, ap, ◌∙◌}
use mathlib.Core.Bool.{true}
use mathlib.Core.List.{List}
use Prim.Native.Nat.{ℕ}
use lib.ListN.{length}
use Rattle.gpi.specs.declared.Gpi.{Gpi}
use Rattle.config.specs.Fields.{supported_of}
use Rattle.resolve.specs.declared.Call.TheVariants.{Plain}
use Rattle.resolve.specs.declared.Site.{Site}
use Rattle.resolve.specs.Lent.{Lent, over, placed}
use Rattle.resolve.proofs.Found.{over-place}
use Rattle.gpt.specs.Lookup.{judged, read_in, looked_at, lookup_of}
use Rattle.std.specs.Prelude.{Err, Ok, Result, Some}
use Rattle.resolve.specs.declared.Place.{Place}
use Rattle.resolve.specs.declared.Refusal.{Refusal}
use Rattle.resolve.specs.declared.Place.TheVariants.{Block, Table}

module _ (q : Lent) (x : ℕ) where
  -- an arena of the same length that reads alike there answers alike, refusals included
  pub same_answer : (A : List ℕ) → length A ≡ length q.arena
      → ((s : Site) → placed q x ≡ Ok (Table s) → read_in (over q A) s ≡ read_in q s)
      → lookup_of (over q A) x ≡ lookup_of q x
  unfolding looked_at lookup_of
  same_answer A e same = ap (looked_at (over q A)) (over-place q A e Plain x) ∙ go (placed q x) refl
    where
      go : (p : Result Place Refusal) → placed q x ≡ p → looked_at (over q A) p ≡ looked_at q p
      go (Err r) f = refl
      go (Ok (Block g)) f = refl
      go (Ok (Table s)) f = ap (judged q.config) (same s f)

  -- a supported GPI that is read there is the answer
  pub answers : (s : Site) (g : Gpi) → placed q x ≡ Ok (Table s) → read_in q s ≡ Some g → supported_of q.config g ≡ true
      → lookup_of q x ≡ Ok g
  unfolding looked_at lookup_of
  answers s g f r u = rw (f, r, u)
