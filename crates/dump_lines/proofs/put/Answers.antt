-- `dump_lines::put` meets its contract.
use native.Mathlib.Omega.{arith}
use Rattle.dump_lines.proofs.Bytes.{copy_put}
use Rattle.dump_lines.proofs.put.Goals as goal

pub returns : goal.returns
returns c = copy_put c.copy_from_slice.ensures.after (omega arith) c.requires
