-- The bytes of numbers, and bytes put into a buffer: what the dump's lines are made of. Document 01, "Dump image and text". Crate
-- `dump_lines`.
use Rattle.std.specs.Prelude.{◌≡◌, true, false, cond, List, [], ◌∷◌, ◌++◌, ℕ, zero, suc, ◌+◌, ◌/◌, ◌%◌, ◌^◌, ltb, length}
use Rattle.std.proofs.lemmas.List.Edits.{sets}

-- a lower-case hexadecimal digit: 0 to 9 from byte 48 on, a to f from byte 97 on
unfoldable pub digit_of : ℕ → ℕ
digit_of d = cond (ltb d 10) (48 + d) (87 + d)

-- the n lowest hexadecimal digits of x, the highest first
unfoldable pub hex : ℕ → ℕ → List ℕ
hex zero x = []
hex (suc n) x = digit_of (x / 16 ^ n % 16) ∷ hex n x

-- the n lowest digits of x in a base, the last one behind those of its part
unfoldable pub lowest : ℕ → ℕ → ℕ → List ℕ
lowest base zero x = []
lowest base (suc n) x = lowest base n (x / base) ++ (digit_of (x % base) ∷ [])

-- a number in decimal: its last digit behind the digits of its tenth part, if it has more than one, so that no zero stands in front. There
-- are n steps at most
unfoldable pub digits : ℕ → ℕ → List ℕ
digits zero x = []
digits (suc n) x = elim (ltb x 10) [ true ↦ (48 + x) ∷ [] | false ↦ digits n (x / 10) ++ ((48 + x % 10) ∷ []) ]

-- a number has no more digits than it is large, but for 0 (`proofs/Decimal` reads them back)
abbrev pub dec : ℕ → List ℕ
dec x = digits (suc x) x

-- the bytes b are put into the buffer o at a place: o' is the buffer after it, and r the place behind them
pub record Put (o : List ℕ) (at : ℕ) (b o' : List ℕ) (r : ℕ) : Type 0 where
  pub bytes : o' ≡ sets o at b
  pub place : r ≡ at + length b
