-- `set_table::can_fuse` meets its contract: an invalid word ends the scan with its index.
use Rattle.std.proofs.lemmas.Result.{err_from_is_err_and}
use Rattle.set_table.proofs.Scans.{scan_invalid}
use Rattle.set_table.proofs.can_fuse.Goals as goal

pub returns-in_err-ok_or : goal.returns-in_err-ok_or
returns-in_err-ok_or c =
    let p = err_from_is_err_and c.from_residual.result c.from_residual.ensures.1 in
    rw (p.1, p.2)
    (scan_invalid c.args.table.now c.args.g _ c.args.words c.requires.words_in_bounds c.loop-i.i c.loop-i.invariant c.loop-i-test.true
    (λ k. (c.type_inv.table k).fits) _ c.matches_gpi.ensures c.in_err-ok_or.ensures.value)
