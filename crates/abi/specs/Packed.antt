-- The C interface's numbers: docs/ABI.md. What comes with an answer is packed with it into one number. Crate `abi`.
use Rattle.std.specs.Prelude.{cond, Bool, ℕ, ◌+◌, ◌*◌, Result}
use Rattle.gpi.specs.declared.Gpi.{Gpi}
use Rattle.resolve.specs.declared.Refusal.{Refusal}
use Rattle.set_table.specs.declared.Changed.{Changed}
use Rattle.gpt.specs.Lookup.{looked_number, looked_gpi}
use Rattle.gpt.specs.Set.{changed_number, changed_records, changed_stores}
use Rattle.mend.specs.Outcome.{mended_number, mended_stores, checked_number, checked_yes}

-- answer + 2^8 * gpi
unfoldable pub looked_packed : Result Gpi Refusal → ℕ
looked_packed s = looked_number s + 256 * looked_gpi s

-- answer + 2^8 * records + 2^16 * stores
unfoldable pub changed_packed : Result Changed Refusal → ℕ
changed_packed a = changed_number a + 256 * changed_records a + 65536 * changed_stores a

-- answer + 2^16 * stores
unfoldable pub mended_packed : Result ℕ Refusal → ℕ
mended_packed m = mended_number m + 65536 * mended_stores m

-- answer + 2^8 * (1 if normal; 0 if not, or refused)
unfoldable pub checked_packed : Result Bool Refusal → ℕ
checked_packed k = checked_number k + 256 * cond (checked_yes k) 1 0
