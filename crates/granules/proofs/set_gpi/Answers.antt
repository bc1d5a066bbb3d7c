-- `granules::set_gpi` meets its contract: what is taken away is the old nibble's share, what is added the new one's.
use mathlib.Core.Path.{◌∙◌, ap₂, ◌≡◌}
use Prim.Native.Nat.{ℕ, ◌<◌}
use native.Mathlib.Omega.{arith}
use Rattle.gpi.specs.declared.Gpi.{Gpi}
use Rattle.gpi.specs.Gpi.{num}
use Rattle.gpi.proofs.Rules.{num-lt}
use Rattle.granules.specs.Packed.{put}
use Rattle.granules.proofs.Store.{taken, stored, nib-le, put-lt}
use Rattle.granules.proofs.set_gpi.Goals as goal

-- the number that is stored is a nibble
small : (g : Gpi) (x : ℕ) → x ≡ num g → x < 16
small g x e = omega (arith, num-lt g)

pub overflow_sub-result : goal.overflow_sub-result
overflow_sub-result c =
    let w = c.args.w in
    let i = c.i.inside.place in
    omega (arith, taken w i 0 c.ranges.w.fits c.i.invariant (omega arith), nib-le w i c.ranges.w.fits c.i.invariant)

pub overflow_add-result : goal.overflow_add-result
overflow_add-result c =
    let w = c.args.w in
    let i = c.i.inside.place in
    let x = c.from-n.result in
    let s = small c.args.g x c.from-n.ensures in
    omega (arith, stored w i x c.ranges.w.fits c.i.invariant s, put-lt w i x c.i.invariant s)

pub returns : goal.returns
returns c =
    let w = c.args.w in
    let i = c.i.inside.place in
    let x = c.from-n.result in
    stored w i x c.ranges.w.fits c.i.invariant (small c.args.g x c.from-n.ensures) ∙ ap₂ (put w) c.i.view_is c.from-n.ensures
