-- `set_table::cut_at` meets its contract: the part that holds the index lies in the whole.
use Rattle.theory.proofs.Ranges.{base-lo, base-hi}
use Rattle.set_table.proofs.cut_at.Goals as goal

pub overflow_sub-result : goal.overflow_sub-result
overflow_sub-result c = base-lo c.args.part c.args.index

pub overflow_sub-result-2 : goal.overflow_sub-result-2
overflow_sub-result-2 c = base-hi c.args.part c.args.index
