-- Crate mend_table: `put_range`. At each word the walk over those before it is made.
use Rattle.std.proofs.Common.{◌≡◌}
use Rattle.theory.specs.Normal.{at}
use Rattle.theory.specs.Inner.{Goes}
use Rattle.l1.specs.Arm.{arm}
use Rattle.mend_table.specs.Inner.{wanted_at}
use Rattle.mend_table.proofs.put_range.Given as goal

abbrev pub invariant-loop-word : goal.invariant-loop-word
invariant-loop-word l =
    (l.stores.limit ≡ l.fn.stores.limit)
    × Goes l.fn.stores.limit (λ i. wanted_at arm l.want (at l.fn.t i)) 0 l.word-index l.fn.t l.fn.stores.made l.t l.stores.made
