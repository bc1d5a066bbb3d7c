-- `set_table::shatter_contig` meets its contract: at 2 MB its words refilled as granules; above, the fill before the part that holds the
-- index, that part by the same rule, and the fill after it.
use mathlib.Core.Path.{◌≡◌, sym}
use Prim.Native.Nat.{ℕ, ◌+◌, ◌*◌}
use native.Mathlib.Omega.{arith}
use Rattle.std.specs.Prelude.{Some}
use Rattle.gpi.specs.declared.Size.{Size}
use Rattle.gpi.specs.Size.{smaller_of}
use Rattle.gpi.proofs.Rules.{smaller_num}
use Rattle.theory.specs.Normal.{span}
use Rattle.l1.specs.Arm.{level_of}
use Rattle.stores.specs.declared.Journal.{Journal}
use Rattle.stores.specs.Journal.{Space}
use Rattle.set_table.specs.declared.SetAt.{SetAt}
use Rattle.set_table.specs.Inner.{Placed}
use Rattle.set_table.proofs.Places.{still}
use Rattle.set_table.proofs.Steps.{last_fills, last_done}
use Rattle.set_table.proofs.Steps.{Parted, part_lies, part_most, first_fills, inward_room, second_fills, all_done}
use Rattle.set_table.proofs.+shatter_contig.Goals as goal

-- ---- 2 MB

pub fill_descs-requires-clause-count_in_bounds : goal.fill_descs-requires-clause-count_in_bounds
fill_descs-requires-clause-count_in_bounds t c = (last_fills _ _ c.args.size c.in_default.ensures c.requires.placed c.requires.room).inside

pub fill_descs-requires-clause-room : goal.fill_descs-requires-clause-room
fill_descs-requires-clause-room t c = (last_fills _ _ c.args.size c.in_default.ensures c.requires.placed c.requires.room).room

pub returns-in_default : goal.returns-in_default
returns-in_default t c = last_done _ _ c.args.size c.in_default.ensures c.args.g c.granule.ensures c.fill_descs.ensures

-- ---- more

-- what is known once the next smaller size and its words are
parted : {j : Journal} {n : ℕ} (q : SetAt) (s m : Size) → Placed j.table.now q.index q.unit
    → Space j (1 + 2 * level_of s) (span q.unit (level_of s)) → Some m ≡ smaller_of s → n ≡ span q.unit (level_of m)
    → Parted j q s m n
parted q s m x r y z = record { placed = x; room = r; smaller = y; words = z }

pub cut_at-c-requires : goal.cut_at-c-requires
cut_at-c-requires t c =
    let p = parted c.args.q.now c.args.size c.in-Some.smaller c.requires.placed c.requires.room c.in-Some.ensures c.span.ensures in
    ((part_lies p).pos, part_most p, omega arith)

pub fill_descs-requires-2-clause-room : goal.fill_descs-requires-2-clause-room
fill_descs-requires-2-clause-room t c =
    let p = parted c.args.q.now c.args.size c.in-Some.smaller c.requires.placed c.requires.room c.in-Some.ensures c.span.ensures in
    (first_fills p c.cut_at-c.ensures).room

pub shatter_contig-requires : goal.shatter_contig-requires
shatter_contig-requires t c =
    let p = parted c.args.q.now c.args.size c.in-Some.smaller c.requires.placed c.requires.room c.in-Some.ensures c.span.ensures in (
      omega (arith, (smaller_num c.args.size c.in-Some.smaller (sym c.in-Some.ensures)).0, c.decreases),
      (still c.fill_descs-2.ensures p.placed, inward_room p c.cut_at-c.ensures _ c.fill_descs-2.ensures),
    )

pub fill_descs-requires-3-clause-count_in_bounds : goal.fill_descs-requires-3-clause-count_in_bounds
fill_descs-requires-3-clause-count_in_bounds t c =
    let p = parted c.args.q.now c.args.size c.in-Some.smaller c.requires.placed c.requires.room c.in-Some.ensures c.span.ensures in
    (second_fills p c.cut_at-c.ensures _ c.fill_descs-2.ensures _ c.shatter_contig.ensures).inside

pub fill_descs-requires-3-clause-room : goal.fill_descs-requires-3-clause-room
fill_descs-requires-3-clause-room t c =
    let p = parted c.args.q.now c.args.size c.in-Some.smaller c.requires.placed c.requires.room c.in-Some.ensures c.span.ensures in
    (second_fills p c.cut_at-c.ensures _ c.fill_descs-2.ensures _ c.shatter_contig.ensures).room

pub returns : goal.returns
returns t c =
    let p = parted c.args.q.now c.args.size c.in-Some.smaller c.requires.placed c.requires.room c.in-Some.ensures c.span.ensures in
    all_done p c.cut_at-c.ensures c.args.g c.contig-word.ensures c.fill_descs-2.ensures c.shatter_contig.ensures c.fill_descs-3.ensures
