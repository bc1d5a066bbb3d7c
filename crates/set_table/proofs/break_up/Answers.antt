-- `set_table::break_up` meets its contract: the shatter, then its barriers.
use Rattle.l1.specs.Arm.{arm, level_of}
use Rattle.l1.proofs.Arm.{level_lt}
use Rattle.stores.proofs.Events.{later}
use Rattle.set_table.proofs.Breaks.{shatter-room, barriers-room}
use Rattle.set_table.proofs.break_up.Goals as goal

pub shatter_contig-requires-clause-room : goal.shatter_contig-requires-clause-room
shatter_contig-requires-clause-room c = shatter-room arm c.args.q.now.unit (level_of c.args.size) (level_lt c.args.size) c.requires.room

pub barriers-requires : goal.barriers-requires
barriers-requires c =
    barriers-room arm c.args.q.now.unit (level_of c.args.size) (level_lt c.args.size) _ _ c.requires.room c.shatter_contig.ensures

pub returns : goal.returns
returns c = rw (← c.bytes.ensures) (later c.shatter_contig.ensures c.barriers.ensures)
