-- `gpt::set_site` meets its contract: the set of the table, made in the part of the arena that is lent.
use native.Mathlib.Nat.{add-sub_cancel_left}
use Rattle.gpt.proofs.Sites.{placed, roomy, made}
use Rattle.gpt.proofs.set_site.Goals as goal

pub set_table-requires : goal.set_table-requires
set_table-requires c =
    rw (add-sub_cancel_left c.args.s.start c.args.s.words) record {
      placed = placed c.args.arena.now c.args.log.now c.args.address.0 c.args.g c.requires.sited;
      granule_bound = rw c.from.ensures c.requires.sited.granule;
      room = roomy c.args.arena.now c.args.log.now c.args.address.0 c.args.g c.requires.sited c.requires.in_bounds;
    }

pub returns : goal.returns
returns c =
    rw (add-sub_cancel_left c.args.s.start c.args.s.words)
    (made c.args.arena.now c.args.log.now c.args.address.0 c.args.g c.requires.sited
    (rw (add-sub_cancel_left c.args.s.start c.args.s.words, c.from.ensures) at c.set_table.ensures) c.ok_or.ensures.value)
