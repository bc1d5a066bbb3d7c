-- Document 01, "How tight the contracts are": "uniqueness of such an outcome is shown". `proofs/Unique` shows it of every public contract.
use Rattle.std.specs.Prelude.{◌≡◌}

-- C is what a contract says of the outcome of one call: any two outcomes that meet it are equal. An outcome is all that the call hands back
-- and all that it may write: answer and counts, arena, log, buffer.
abbrev pub One : {O : Type 0} → (O → Type 0) → Type 0
One {O = O} C = (r q : O) → C r → C q → r ≡ q
