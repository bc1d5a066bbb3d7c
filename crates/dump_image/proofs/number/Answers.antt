-- `dump_image::number` meets its contract. The loop keeps that v is the number of the bytes so far.
use mathlib.Core.Path.{◌≡◌, ◌∙◌}
use mathlib.Core.List.{List}
use Prim.Native.Nat.{ℕ, ◌<◌, ◌+◌}
use native.Mathlib.Omega.{arith}
use lib.Dec.{lit<}
use lib.ListN.{get_or}
use Rattle.std.specs.List.{between}
use Rattle.std.proofs.lemmas.List.Edits.{get_or-between}
use Rattle.dump_image.proofs.Numbers.{room, grown, number_more, number-none}
use Rattle.dump_image.proofs.number.Goals as goal

pub loop-b-init : goal.loop-b-init
loop-b-init c = (number-none _ _, lit< tt)

pub overflow_mul-v : goal.overflow_mul-v
overflow_mul-v c = let h = room {b = 0} c.loop-b.invariant.1 (omega arith) (lit< tt) in omega arith

-- the byte of a turn, by its index in s
byte : (s : List ℕ) (at n i b : ℕ) → i < n → b ≡ get_or (between at (at + n) s) i 0 → b ≡ get_or s (at + i) 0
byte s at n i b h e = e ∙ get_or-between s at (at + n) i 0 (omega arith)

pub overflow_add-v : goal.overflow_add-v
overflow_add-v c =
    let i = c.loop-b.b-index in
    let e = byte c.args.s.now c.args.at c.args.n i c.from.result (omega arith) c.from.ensures in
    let b : c.from.result < 256 = omega (arith, c.type_inv.s (c.args.at + i)) in
    let h = room c.loop-b.invariant.1 (omega arith) b in omega arith

pub loop-b-preserved : goal.loop-b-preserved
loop-b-preserved c =
    let i = c.loop-b.b-index in
    let e = byte c.args.s.now c.args.at c.args.n i c.from.result (omega arith) c.from.ensures in
    (number_more _ _ _ c.loop-b.invariant.0 e, grown _ c.loop-b.invariant.1 (omega (arith, c.type_inv.s (c.args.at + i))))
