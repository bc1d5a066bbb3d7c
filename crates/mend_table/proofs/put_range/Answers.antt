-- Crate mend_table: `put_range` meets its contract.
use mathlib.Core.Path.{refl, ◌∙◌}
use Rattle.theory.specs.Inner.{mend_walk}
use Rattle.l1.specs.Arm.{arm}
use Rattle.mend_table.specs.Inner.{wanted_at}
use Rattle.mend_table.proofs.Walks.{word_more}
use Rattle.mend_table.proofs.put_range.Goals as goal

pub loop-word-init : goal.loop-word-init
unfolding mend_walk
loop-word-init c = (refl, refl)

pub loop-word-preserved : goal.loop-word-preserved
loop-word-preserved c =
    let i = c.loop-word.invariant in (
      c.put.ensures.limit ∙ i.0,
      word_more _ _ _ _ _ _ _ (wanted_at arm c.args.want) _ _ i.1 c.wanted-w.ensures (rw i.0 at c.put.ensures.stored),
    )
