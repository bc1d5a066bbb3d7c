-- `GranuleProtection::lookup`: the place in a table that was found lies in the arena.
use Rattle.gpt.proofs.Sites.{sited_at}
use Rattle.gpt.proofs.GranuleProtection.lookup.Goals as goal

pub read_site-requires : goal.read_site-requires
read_site-requires c = sited_at _ _ c.place.ensures c.in_ok-g.was c.in-Table.is
