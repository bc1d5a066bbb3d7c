-- Crate mend_table: `judge` meets its contract.
use mathlib.Core.Path.{sym, ◌∙◌}
use Rattle.l1.specs.Arm.{arm}
use Rattle.l1.proofs.Arm.{arm-laws, contig_arm}
use Rattle.l1.proofs.Sizes.{level_down, level_none}
use Rattle.mend_table.proofs.Judging.{range_pos, of_one, of_words, of_parts}
use Rattle.mend_table.proofs.judge.Goals as goal

pub one_gpi-requires : goal.one_gpi-requires
one_gpi-requires c = range_pos c.requires

pub returns-in-Some : goal.returns-in-Some
returns-in-Some c = of_one arm arm-laws c.args.t.now c.in-Some.g _ c.in-Some.ensures (c.contig.ensures ∙ contig_arm c.args.s c.in-Some.g)

pub returns-in-Some-next_smaller : goal.returns-in-Some-next_smaller
returns-in-Some-next_smaller c = of_parts arm arm-laws c.args.t.now c.in-None.ensures (level_down c.args.s _ (sym c.next_smaller.ensures ∙ c.in-Some-next_smaller.is))

pub returns-in-None-next_smaller : goal.returns-in-None-next_smaller
returns-in-None-next_smaller c =
    of_words arm arm-laws c.args.t.now c.in-None.ensures (level_none c.args.s (sym c.next_smaller.ensures ∙ c.in-None-next_smaller.is))
