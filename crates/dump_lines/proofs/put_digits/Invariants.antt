-- `dump_lines::put_digits` meets its contract. What is left to put says the same as the whole.
use Rattle.std.proofs.Common.{◌≡◌, ◌≤◌, ◌-◌, length}
use lib.Seq.{sets}
use Rattle.dump_lines.specs.Digits.{lowest}
use Rattle.dump_lines.proofs.put_digits.Given as goal

abbrev pub invariant-loop-i : goal.invariant-loop-i
invariant-loop-i g l =
    record {
      from : l.at ≤ l.i;
      same : sets l.initial.out l.at (lowest g.row.BASE l.n l.x) ≡ sets l.out l.at (lowest g.row.BASE (l.i - l.at) l.v);
      long : length l.out ≡ length l.initial.out;
    }
