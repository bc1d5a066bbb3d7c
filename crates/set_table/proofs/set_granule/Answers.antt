-- `set_table::set_granule` meets its contract: the granule store, its barriers, the scans, the fuse.
use mathlib.Core.Path.{ap, ◌∙◌}
use native.Mathlib.Nat.{mod-eq_of_lt}
use Rattle.l1.specs.Arm.{arm}
use Rattle.set_table.specs.Table.{target_of, answer_of}
use Rattle.set_table.proofs.Places.{still}
use Rattle.set_table.proofs.Sets.{barriers_room, fuse_room, grant, grant_scanned}
use Rattle.set_table.proofs.set_granule.Goals as goal

pub barriers-requires : goal.barriers-requires
barriers-requires c = barriers_room _ c.requires.room c.store_granule.ensures

pub fuse_descriptors-m-requires : goal.fuse_descriptors-m-requires
fuse_descriptors-m-requires c = still c.barriers.ensures (still c.store_granule.ensures c.requires.placed)

pub fuse-requires-clause-placed : goal.fuse-requires-clause-placed
fuse-requires-clause-placed c = still c.barriers.ensures (still c.store_granule.ensures c.requires.placed)

pub fuse-requires-clause-room : goal.fuse-requires-clause-room
fuse-requires-clause-room c = fuse_room _ c.requires.room c.store_granule.ensures c.barriers.ensures

pub returns-clause-done : goal.returns-clause-done
returns-clause-done c =
    grant arm c.args.q.now.unit (target_of c.args.q.now) _ _ (rw (c.of.ensures ∙ mod-eq_of_lt c.requires.granule_bound) at c.set_gpi-w.ensures) c.store_granule.ensures c.barriers.ensures
    c.fuse_descriptors-m.ensures c.fuse.ensures.done

pub returns-clause-answer : goal.returns-clause-answer
returns-clause-answer c =
    c.fuse.ensures.answer
    ∙ ap (λ m. answer_of m c.fuse.new.j.tally)
    (grant_scanned arm c.args.q.now.unit (target_of c.args.q.now) _ _ (rw (c.of.ensures ∙ mod-eq_of_lt c.requires.granule_bound) at c.set_gpi-w.ensures) c.store_granule.ensures c.barriers.ensures
    c.fuse_descriptors-m.ensures)
