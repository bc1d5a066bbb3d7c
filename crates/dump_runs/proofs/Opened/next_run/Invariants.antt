-- What `dump_runs::Opened::next_run`'s loop keeps: the runs from a on are those of a run that has come to `last`.
use Prim.Native.Nat.{◌≤◌, ◌<◌, ◌-◌}
use mathlib.Core.Path.{◌≡◌}
use Rattle.gpt.specs.Lookup.{lookup_of}
use Rattle.dump_runs.specs.Opened.{lent_of}
use Rattle.dump_runs.specs.Runs.{runs, from, total}
use Rattle.dump_runs.proofs.Opened.next_run.Given as goal

abbrev pub invariant-loop-last : goal.invariant-loop-last
invariant-loop-last l = record {
  up : l.a ≤ l.last;
  inside : l.last < total l.self.widths;
  answer : l.answer ≡ lookup_of (lent_of l.self) l.last;
  runs : from (lookup_of (lent_of l.self)) l.a (total l.self.widths - l.a)
      ≡ runs (lookup_of (lent_of l.self)) l.a l.last (total l.self.widths - 1 - l.last);
}

abbrev pub decreases-loop-last : goal.decreases-loop-last
decreases-loop-last l = total l.self.widths - l.last
