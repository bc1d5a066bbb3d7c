-- The measure of the recursion in `set_table::shatter_contig`: the size code, which is 3, 2, 1.
use Rattle.gpi.specs.Size.{size_num}
use Rattle.set_table.proofs.+shatter_contig.Given as goal

abbrev pub decreases-shatter_contig : goal.decreases-shatter_contig
decreases-shatter_contig l = size_num l.size
