-- Crate mend_table: the cycle of calls {mend_parts, mend_region} meets its contracts.
use native.Mathlib.Omega.{arith}
use native.Mathlib.Nat.{add-sub_cancel_left}
use Rattle.l1.specs.Arm.{arm}
use Rattle.l1.proofs.Arm.{arm-laws, level_lt}
use Rattle.mend_table.proofs.Judging.{range_pos, one_range, parts_lie, down}
use Rattle.mend_table.proofs.Walks.{none_yet, part_long, one_more, all_made, words_mended, parts_mended}
use Rattle.mend_table.proofs.+mend_parts_mend_region.Goals as goal

pub mend_parts-nonzero_div-p-end : goal.mend_parts-nonzero_div-p-end
mend_parts-nonzero_div-p-end t c = range_pos c.requires

pub mend_parts-loop-p-init : goal.mend_parts-loop-p-init
mend_parts-loop-p-init t c = none_yet arm

pub mend_parts-mend_region-stores-requires : goal.mend_parts-mend_region-stores-requires
mend_parts-mend_region-stores-requires t c = (
  omega (arith, c.decreases),
  one_range c.requires _ (part_long c.loop-p.p _ c.loop-p.t (add-sub_cancel_left _ _) (rw c.loop-p.auto.t c.loop-p-test.true)),
)

pub mend_parts-loop-p-preserved : goal.mend_parts-loop-p-preserved
mend_parts-loop-p-preserved t c =
    one_more arm c.loop-p.p _ c.loop-p.t c.mend_region-stores.new.t arm-laws (level_lt c.args.s) (add-sub_cancel_left _ _)
    (rw c.loop-p.auto.t c.loop-p-test.true) c.loop-p.invariant c.mend_region-stores.ensures

pub mend_parts-returns : goal.mend_parts-returns
mend_parts-returns t c = all_made arm c.loop-p.p c.requires c.loop-p-test.false (omega arith) c.loop-p.invariant

pub mend_region-mend_parts-requires : goal.mend_region-mend_parts-requires
mend_region-mend_parts-requires t c =
    let d = down c.judge.ensures c.in-Parts.is in (omega (arith, c.decreases, d), parts_lie c.requires d)

pub mend_region-returns-in-Words : goal.mend_region-returns-in-Words
mend_region-returns-in-Words t c =
    words_mended arm c.args.t.now _ c.judge.ensures _ c.in-Words.is c.put_range.ensures.limit c.put_range.ensures.goes

pub mend_region-returns-in-Parts : goal.mend_region-returns-in-Parts
mend_region-returns-in-Parts t c = parts_mended arm c.args.t.now _ c.judge.ensures _ c.in-Parts.is c.mend_parts.ensures
