-- `set_table::fuse_descriptors` meets its contract. The loop keeps that the levels left say the same as all of them.
use mathlib.Core.Path.{◌≡◌}
use Prim.Native.Nat.{◌-◌}
use Rattle.std.specs.Prelude.{None, Ok}
use Rattle.gpi.specs.Gpi.{num}
use Rattle.theory.specs.Normal.{at}
use Rattle.theory.specs.Set.{climb}
use Rattle.l1.specs.Arm.{arm}
use Rattle.set_table.specs.Inner.{leveled}
use Rattle.set_table.proofs.fuse_descriptors.Given as goal

abbrev pub invariant-loop-size : goal.invariant-loop-size
invariant-loop-size l =
    climb arm l.unit (at l.table) (num l.g) l.index 0 (Ok None) 3
    ≡ climb arm l.unit (at l.table) (num l.g) l.index l.size-index (leveled (Ok l.best)) (3 - l.size-index)
