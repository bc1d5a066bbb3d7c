-- What the exports that store hand back and leave: docs/ABI.md. The number is the call's answer, packed; the words are the call's. Crate
-- `abi`.
use Rattle.std.specs.Prelude.{◌≡◌, List, ℕ}
use Rattle.gpt.specs.Set.{Outcome}
use Rattle.mend.specs.Outcome.{Outcome as MendOutcome}
use Rattle.abi.specs.Packed.{changed_packed, mended_packed}

-- what a set hands back and leaves
pub record SetLeft (o : Outcome) (r : ℕ) (A L : List ℕ) : Type 0 where
  pub answer : r ≡ changed_packed o.answer
  pub arena : A ≡ o.left.arena
  pub log : L ≡ o.log

-- what a mend hands back and leaves
pub record MendLeft (o : MendOutcome) (r : ℕ) (A : List ℕ) : Type 0 where
  pub answer : r ≡ mended_packed o.answer
  pub arena : A ≡ o.left.arena
