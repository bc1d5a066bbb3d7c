-- Definitions of `view`: what the readers of a table's view answer. An address is told by its distance d in bytes from the table's first;
-- granules are of 2^width bytes.
use Rattle.std.specs.Prelude.{Bool, cond, ◌&&◌, ◌||◌, List, ℕ, ◌/◌, ◌%◌, ◌^◌, eqb, ltb, length, get_or}
use Rattle.std.specs.Prelude.{Option, Some, None, Result, Ok, Err}
use Rattle.l1.specs.L1.{read_at}
use Rattle.gpi.specs.declared.Gpi.{Gpi}
use Rattle.view.specs.declared.NoGpi.{NoGpi}
use Rattle.view.specs.declared.NoGpi.TheVariants.{Invalid, Outside}

-- "PGS 0, 1, 2 mean 12, 16, 14 bits"
abbrev pub is_width : ℕ → Bool
is_width n = eqb n 12 || (eqb n 14 || eqb n 16)

-- "sixteen GPIs, lowest address in the low nibble": the word and the granule, in a table of n words
unfoldable pub spot_of : ℕ → ℕ → ℕ → Option (ℕ × ℕ)
spot_of n width d = cond (is_width width && ltb (d / 2 ^ width / 16) n) (Some (d / 2 ^ width / 16, d / 2 ^ width % 16)) None

abbrev pub seen : List ℕ → Option (ℕ × ℕ) → Option ℕ
seen t (Some (i, k)) = Some (get_or t i 0)
seen t None = None

abbrev pub seen_at : List ℕ → ℕ → ℕ → Option ℕ
seen_at t width d = seen t (spot_of (length t) width d)

-- what a granule reads is `read_at` of its word, as a lookup has it
abbrev pub held_by : Option Gpi → Result Gpi NoGpi
held_by (Some g) = Ok g
held_by None = Err Invalid

abbrev pub held : List ℕ → Option (ℕ × ℕ) → Result Gpi NoGpi
held t (Some (i, k)) = held_by (read_at (get_or t i 0) k)
held t None = Err Outside

abbrev pub held_at : List ℕ → ℕ → ℕ → Result Gpi NoGpi
held_at t width d = held t (spot_of (length t) width d)
