-- Crate mend_table: what the check answers. Document 01, "Agreement, normal tables, mend": the check "says yes exactly if an unlimited mend
-- would write nothing". A table has no more words than its length, so a limit of so many stores stops no mend.
use Rattle.std.specs.Prelude.{Bool, List, ℕ, eqb, length}
use Rattle.theory.specs.Format.{Format}
use Rattle.theory.specs.Mend.{mend_count}

unfoldable pub is_normal : Format → ℕ → List ℕ → Bool
is_normal F u t = eqb (mend_count F u (length t) t) 0
