-- `dump_lines::put_line` meets its contract: the pieces, one after the other.
use Rattle.dump_lines.specs.Lines.{line}
use Rattle.dump_lines.proofs.Bytes.{then_put}
use Rattle.dump_lines.proofs.put_line.Goals as goal

pub returns : goal.returns
unfolding line
returns c = then_put c.put_address-a.ensures (then_put c.put_address-b.ensures (then_put c.put_name-d.ensures c.put.ensures))
