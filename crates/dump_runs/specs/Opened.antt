-- What the tables of an `Opened` lend. Of the crate `dump_runs`.
use Rattle.resolve.specs.Lent.{Lent}
use Rattle.gpt.specs.Lends.{lends}
use Rattle.dump_runs.specs.declared.Opened.{Opened}

abbrev pub lent_of : Opened → Lent
lent_of o = lends o.tables o.arena.now
