-- `dump_lines::put_numbered` meets its contract.
use Rattle.dump_lines.proofs.Bytes.{then_put}
use Rattle.dump_lines.proofs.put_numbered.Goals as goal

pub returns : goal.returns
returns c = then_put c.put-b.ensures c.put_dec.ensures
