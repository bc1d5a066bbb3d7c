-- `set_table::fuse_descriptors` meets its contract. The loop keeps that the levels left say the same as all of them.
use Rattle.std.proofs.lemmas.Result.{err_from_is_err_and}
use Rattle.l1.proofs.Arm.{level_lt}
use Rattle.set_table.proofs.Places.{lies}
use Rattle.set_table.proofs.Scans.{sized, climb_on, climb_differs, climb_invalid, climb_ended}
use Rattle.set_table.proofs.fuse_descriptors.Goals as goal

pub can_fuse-requires-clause-words_nonzero : goal.can_fuse-requires-clause-words_nonzero
can_fuse-requires-clause-words_nonzero c = (lies c.requires _ _ (level_lt _) c.span.ensures).pos

pub can_fuse-requires-clause-words_in_bounds : goal.can_fuse-requires-clause-words_in_bounds
can_fuse-requires-clause-words_in_bounds c = (lies c.requires _ _ (level_lt _) c.span.ensures).inside

pub loop-size-preserved : goal.loop-size-preserved
loop-size-preserved c =
    let l = c.loop-size in
    climb_on c.args.table.now c.args.g _ c.args.unit l.size-index l.best l.invariant _ (sized l.size-index _ c.loop-size-test.true)
    c.loop-size-test.true c.span.ensures c.in_ok-can_fuse.ensures c.if-not-branch.false

pub returns-then-not-branch : goal.returns-then-not-branch
returns-then-not-branch c =
    let l = c.loop-size in
    climb_differs c.args.table.now c.args.g _ c.args.unit l.size-index l.best l.invariant _ (sized l.size-index _ c.loop-size-test.true)
    c.loop-size-test.true c.span.ensures c.in_ok-can_fuse.ensures c.if-not-branch.true

pub returns-in_err-can_fuse : goal.returns-in_err-can_fuse
returns-in_err-can_fuse c =
    let l = c.loop-size in
    let p = err_from_is_err_and c.from_residual.result c.from_residual.ensures.1 in
    rw (p.1, p.2)
    (climb_invalid c.args.table.now c.args.g _ c.args.unit l.size-index l.best l.invariant _ (sized l.size-index _ c.loop-size-test.true)
    c.loop-size-test.true c.span.ensures c.in_err-can_fuse.ensures)

pub returns : goal.returns
returns c =
    let l = c.loop-size in
    climb_ended c.args.table.now c.args.g _ c.args.unit l.size-index l.best l.invariant c.loop-size-test.false
