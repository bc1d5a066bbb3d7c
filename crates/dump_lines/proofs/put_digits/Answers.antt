-- `dump_lines::put_digits` meets its contract. What is left to put says the same as the whole.
use mathlib.Core.Path.{◌∙◌}
use native.Mathlib.Omega.{arith}
use lib.ListN.{length-set}
use Rattle.dump_lines.proofs.Bytes.{lowest_next, lowest_done}
use Rattle.dump_lines.proofs.put_digits.Goals as goal

pub loop-i-preserved : goal.loop-i-preserved
loop-i-preserved g c =
    let l = c.loop-i in
    record {
      from = omega arith;
      same = l.invariant.same ∙ lowest_next g.row.BASE l.out c.args.at l.i l.v (omega arith) c.digit.ensures;
      long = simp length-set l.invariant.long;
    }

pub returns : goal.returns
returns g c = let l = c.loop-i in lowest_done g.row.BASE _ _ _ _ _ _ _ l.invariant.from (omega arith) l.invariant.same
