-- `dump_lines::put_address` meets its contract.
use Rattle.dump_lines.specs.Lines.{address}
use Rattle.dump_lines.proofs.Bytes.{then_put}
use Rattle.dump_lines.proofs.put_address.Goals as goal

pub returns : goal.returns
unfolding address
returns c = then_put c.put_hex-a.ensures c.put.ensures
