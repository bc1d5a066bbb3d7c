-- `granules::all_gpi` meets its contract: each call of the test is of the nibble at a place.
use mathlib.Core.Path.{◌≡◌, refl, ap, ◌∙◌}
use mathlib.Core.Bool.{true, false}
use Prim.Native.Nat.{ℕ, ◌*◌, ◌/◌, ◌%◌, ◌^◌}
use borrow.Author.Rules.{rules}
use lib.Dec.{eqb}
use Rattle.std.proofs.lemmas.Iterator.{cases_from_all, YieldsList-from_range}
use Rattle.granules.specs.Nibs.{nibs, all}
use Rattle.granules.proofs.Store.{all-places}
use Rattle.granules.proofs.all_gpi.Goals as goal

pub returns : goal.returns
returns c =
    let w = c.args.w in
    let x = c.from-x.result in
    all-places (eqb x) w c.all.result
    (cases_from_all _ _ _ (λ (i : ℕ). eqb x (w / 2 ^ (4 * i) % 16) ≡ true) (λ (i : ℕ). eqb x (w / 2 ^ (4 * i) % 16) ≡ false) c.all.ensures.ran
    (YieldsList-from_range 0 16 16 refl refl) (λ i q k. search rules) (λ i q k. search rules))
    ∙ ap (λ (n : ℕ). all (eqb n) (nibs 16 w)) c.from-x.ensures
