-- `set_table::fuse` meets its contract: a fill of the range that matched, or nothing.
use Rattle.theory.specs.Set.{fused}
use Rattle.stores.proofs.Events.{none}
use Rattle.set_table.proofs.Fuses.{fuse_lies, fuse_room, fuse_done, unfused}
use Rattle.set_table.proofs.fuse.Goals as goal

pub nonzero_div-q : goal.nonzero_div-q
nonzero_div-q c = (fuse_lies _ _ c.in-Ok-Some.size c.span-words.ensures c.requires.placed).pos

pub fill_descs-requires-clause-count_in_bounds : goal.fill_descs-requires-clause-count_in_bounds
fill_descs-requires-clause-count_in_bounds c = (fuse_lies _ _ c.in-Ok-Some.size c.span-words.ensures c.requires.placed).inside

pub fill_descs-requires-clause-room : goal.fill_descs-requires-clause-room
fill_descs-requires-clause-room c = fuse_room c.args.q.now.index _ c.in-Ok-Some.size c.span-words.ensures c.requires.room

pub returns-in-Ok-None-clause-done : goal.returns-in-Ok-None-clause-done
returns-in-Ok-None-clause-done c = unfused _ _ _ _ c.in-Ok-None.is (rw c.in-Ok-None.is at c.in-Ok-None.field-0-is)

pub returns-in-Ok-Some-clause-done : goal.returns-in-Ok-Some-clause-done
returns-in-Ok-Some-clause-done c =
    fuse_done _ _ c.in-Ok-Some.size c.span-words.ensures c.args.q.now.gpi c.in-Ok-Some.is (rw c.in-Ok-Some.is at c.in-Ok-Some.field-0-is) c.contig-word.ensures
    c.fill_descs.ensures

pub returns-in-Err-clause-done : goal.returns-in-Err-clause-done
unfolding fused
returns-in-Err-clause-done c = rw c.in-Err.is (none _)
