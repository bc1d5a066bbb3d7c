-- `dump_lines::put_header` meets its contract: the pieces, one after the other.
use Rattle.dump_lines.specs.Lines.{header}
use Rattle.dump_lines.proofs.Bytes.{then_put}
use Rattle.dump_lines.proofs.put_header.Goals as goal

pub returns : goal.returns
unfolding header
returns c = then_put c.put_numbered-a.ensures (then_put c.put_numbered-b.ensures (then_put c.put_numbered-c.ensures c.put.ensures))
