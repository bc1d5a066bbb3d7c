-- `set_table::can_fuse` meets its contract. The loop keeps that what is left says the same as the whole.
use mathlib.Core.Path.{◌≡◌}
use Prim.Native.Nat.{◌+◌, ◌-◌}
use Rattle.gpi.specs.Gpi.{num}
use Rattle.theory.specs.Normal.{at}
use Rattle.theory.specs.Set.{scan}
use Rattle.l1.specs.Arm.{arm}
use Rattle.set_table.proofs.can_fuse.Given as goal

abbrev pub invariant-loop-i : goal.invariant-loop-i
invariant-loop-i l = scan arm (at l.table) (num l.g) l.low l.words ≡ scan arm (at l.table) (num l.g) (l.low + l.i) (l.words - l.i)
