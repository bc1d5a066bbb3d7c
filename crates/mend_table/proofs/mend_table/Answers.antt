-- Crate mend_table: `mend_table` meets its contract.
use Rattle.mend_table.proofs.Walks.{whole_mended}
use Rattle.mend_table.proofs.mend_table.Goals as goal

pub returns : goal.returns
returns c = whole_mended c.requires c.span-n.ensures c.mend_parts.ensures
