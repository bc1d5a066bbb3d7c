-- `GranuleProtection::set`: the place in a table that was found lies in the arena.
use Rattle.gpt.proofs.Sites.{sited_at}
use Rattle.gpt.proofs.GranuleProtection.set.Goals as goal

pub set_site-requires-clause-sited : goal.set_site-requires-clause-sited
set_site-requires-clause-sited c = sited_at _ _ c.place.ensures c.in_ok-place.was c.in-Table.is
