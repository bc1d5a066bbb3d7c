-- Crate mend_table: the measure of the cycle of calls {parts, region}: twice the size's level, and one more for the parts. And the loop of
-- `parts`: what its iterator has left is what is left of the table.
use Rattle.std.proofs.Common.{◌≡◌, ◌+◌, ◌*◌}
use Rattle.std.specs.Slice.Iter.{chunks_exact_rest, chunks_exact_size}
use Rattle.l1.specs.Arm.{arm, level_of}
use Rattle.mend_table.proofs.Checks.{Passed}
use Rattle.mend_table.proofs.+parts_region.Given as goal

abbrev pub decreases-parts : goal.decreases-parts
decreases-parts l = 2 * level_of l.s + 1

abbrev pub decreases-region : goal.decreases-region
decreases-region l = 2 * level_of l.s

abbrev pub invariant-parts-loop-part : goal.invariant-parts-loop-part
invariant-parts-loop-part l =
    (goal.iterator-parts-loop-part).can_next l.part-iterator
    × (goal.iterator-parts-loop-part).is_finite l.part-iterator
    × (chunks_exact_size l.part-iterator ≡ l.n)
    × Passed arm (level_of l.s) l.n l.t (chunks_exact_rest l.part-iterator)
