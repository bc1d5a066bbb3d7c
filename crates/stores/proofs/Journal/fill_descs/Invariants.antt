-- `stores::Journal::fill_descs` meets its contract. The loop keeps that exactly the first k words are stored.
use mathlib.Core.Path.{◌≡◌}
use Rattle.theory.specs.Stores.{apply, fill}
use Rattle.stores.proofs.Journal.fill_descs.Given as goal

abbrev pub invariant-loop-k : goal.invariant-loop-k
invariant-loop-k l = l.table ≡ apply l.initial.table (fill l.at l.k l.word)
