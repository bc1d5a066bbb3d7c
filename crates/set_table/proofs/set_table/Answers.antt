-- `set_table::set_table` meets its contract: an invalid entry changes nothing; a contiguous one is broken up first.
use mathlib.Core.Path.{refl, sym, ap, ◌∙◌}
use native.Mathlib.Omega.{arith}
use Rattle.std.proofs.Common.{rules}
use Rattle.std.specs.Prelude.{Some}
use Rattle.l1.specs.Arm.{arm, level_of, valid_of}
use Rattle.l1.proofs.Arm.{arm-laws, level_lt}
use Rattle.stores.specs.Done.{fresh}
use Rattle.stores.proofs.Events.{nothing, later, less}
use Rattle.set_table.specs.Table.{target_of}
use Rattle.set_table.proofs.Places.{still}
use Rattle.set_table.proofs.Breaks.{opened, grant_room}
use Rattle.set_table.proofs.Sets.{finish, valid_entry, broken_up, as_granules}
use Rattle.set_table.proofs.set_table.Goals as goal
use Rattle.set_table.proofs.set_table.Goals.{in-Contiguous, in_default}

pub set_granule-requires-clause-placed : goal.set_granule-requires-clause-placed
set_granule-requires-clause-placed c =
    elim c.match-entry.branch [
      | in-Contiguous w ↦ rw w.j-is (still w.break_up.ensures c.requires.placed)
      | in_default w ↦ rw w.j-is c.requires.placed
    ]

pub set_granule-requires-clause-room : goal.set_granule-requires-clause-room
set_granule-requires-clause-room c =
    elim c.match-entry.branch [
      | in-Contiguous w ↦
          rw w.j-is
          (grant_room arm c.args.q.now.unit (level_of w.in-Contiguous.size) (level_lt w.in-Contiguous.size) _ _
          (opened c.requires.room c.default.ensures refl refl refl) _ _ w.break_up.ensures)
      | in_default w ↦ rw w.j-is (less _ _ (opened c.requires.room c.default.ensures refl refl refl) (omega arith) (omega arith))
    ]

pub returns-in_err-entry : goal.returns-in_err-entry
returns-in_err-entry c =
    let e = sym (c.in_err-entry.ensures.value ∙ c.try_from.ensures) in
    rw (c.from_residual.ensures, ap valid_of e) record { tally = fresh; done = nothing _ _ _ _; answer = refl }

pub returns : goal.returns
returns c =
    let e = sym (c.in_ok-entry.ensures.value ∙ c.try_from.ensures) in
    let q = c.args.q.now in
    rw (valid_entry _ c.in_ok-entry.entry e)
    elim c.match-entry.branch [
      | in-Contiguous w ↦
          let d = broken_up q w.in-Contiguous.g w.in-Contiguous.size (e ∙ ap Some w.in-Contiguous.is) w.j-is w.break_up.ensures in
          let s = later d c.set_granule.ensures.done in
          finish arm arm-laws q.unit c.requires.placed.least (target_of q) c.requires.placed.index d c.set_granule.ensures.done
          c.set_granule.ensures.answer c.default.ensures (search rules) (search rules)
      | in_default w ↦
          let d = as_granules q c.in_ok-entry.entry e w.in_default.not-Contiguous w.j-is in
          let s = later d c.set_granule.ensures.done in
          finish arm arm-laws q.unit c.requires.placed.least (target_of q) c.requires.placed.index d c.set_granule.ensures.done
          c.set_granule.ensures.answer c.default.ensures (search rules) (search rules)
    ]
