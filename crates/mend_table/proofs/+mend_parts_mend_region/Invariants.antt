-- Crate mend_table: the measure of the cycle of calls {mend_parts, mend_region}: twice the size's level, and one more for the parts. And
-- the loop of `mend_parts`: after p ranges the walk over them is made.
use Rattle.std.proofs.Common.{◌+◌, ◌*◌}
use Rattle.l1.specs.Arm.{arm, level_of}
use Rattle.mend_table.specs.Inner.{Mends}
use Rattle.mend_table.proofs.+mend_parts_mend_region.Given as goal

abbrev pub decreases-mend_parts : goal.decreases-mend_parts
decreases-mend_parts l = 2 * level_of l.s + 1

abbrev pub decreases-mend_region : goal.decreases-mend_region
decreases-mend_region l = 2 * level_of l.s

abbrev pub invariant-mend_parts-loop-p : goal.invariant-mend_parts-loop-p
invariant-mend_parts-loop-p l = Mends arm (level_of l.s) l.n (l.p * l.n) l.initial.t l.initial.stores l.t l.stores
