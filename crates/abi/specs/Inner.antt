-- What the functions of the crate `abi` that pack an answer ask: every set and every mend has it (`proofs/Few`).
use Rattle.std.specs.Prelude.{ℕ, ◌≤◌, Result}
use Rattle.resolve.specs.declared.Refusal.{Refusal}
use Rattle.set_table.specs.declared.Changed.{Changed}
use Rattle.gpt.specs.Set.{changed_number, changed_records, changed_stores}
use Rattle.mend.specs.Outcome.{mended_stores}

-- each part within its place, so that none runs into the next (`set-small` of `abi` has it of every set)
pub record Small (r : Result Changed Refusal) : Type 0 where
  pub number : changed_number r ≤ 10
  pub records : changed_records r ≤ 13
  pub stores : changed_stores r ≤ 16385

-- the same of a mend (`mend-small`): at most the words of the largest table
abbrev pub Few : Result ℕ Refusal → Type 0
Few m = mended_stores m ≤ 8388608
