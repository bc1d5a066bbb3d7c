-- Crate mend_table: `check_table` meets its contract.
use Rattle.l1.specs.Arm.{arm}
use Rattle.mend_table.proofs.Checks.{whole_checked}
use Rattle.mend_table.proofs.check_table.Goals as goal

pub returns : goal.returns
returns c = whole_checked arm c.args.t.now c.requires c.span.ensures c.parts.ensures
