-- `mend::table_named`: the place in a table that was found lies in the arena.
use Rattle.gpt.proofs.Sites.{sited_at}
use Rattle.mend.proofs.table_named.Goals as goal

pub returns-in-Table-clause-sited : goal.returns-in-Table-clause-sited
returns-in-Table-clause-sited c = sited_at _ _ c.place.ensures c.in_ok-place.was c.in-Table.is
