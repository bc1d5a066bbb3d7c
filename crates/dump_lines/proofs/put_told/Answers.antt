-- `dump_lines::put_told` meets its contract.
use Rattle.dump_lines.specs.Lines.{told}
use Rattle.dump_lines.proofs.Bytes.{then_put}
use Rattle.dump_lines.proofs.put_told.Goals as goal

pub returns : goal.returns
unfolding told
returns c = then_put c.put_numbered-b.ensures c.put.ensures
