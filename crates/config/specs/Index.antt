-- Document 01, "What a call is lent": how an address finds its L0 entry, its word in the L1 table and its granule, and how long tables and
-- ranges are. Over the widths, never per granule size. Crate `config`.
use Rattle.std.specs.Prelude.{ℕ, ◌+◌, ◌-◌, ◌/◌, ◌%◌, ◌^◌}
use Rattle.gpi.specs.declared.Size.{Size}
use Rattle.gpi.specs.Size.{bytes_of}
use Rattle.config.specs.declared.Widths.{Widths}

-- "L0 has 2^(PPS bits - L0GPTSZ bits) entries"
abbrev pub l0_entries : Widths → ℕ
l0_entries w = 2 ^ (w.pps - w.l0gptsz)

-- an L0 entry speaks for 2^(L0GPTSZ bits) bytes of the protected space
abbrev pub l0_index : Widths → ℕ → ℕ
l0_index w a = a % 2 ^ w.pps / 2 ^ w.l0gptsz

-- "An L1 table has 2^(L0GPTSZ bits - PGS bits - 4) words"
abbrev pub l1_words : Widths → ℕ
l1_words w = 2 ^ (w.l0gptsz - (w.pgs + 4))

-- an L1 word speaks for sixteen granules
abbrev pub l1_index : Widths → ℕ → ℕ
l1_index w a = a % 2 ^ w.l0gptsz / 2 ^ (w.pgs + 4)

-- "sixteen GPIs, lowest address in the low nibble"
abbrev pub granule_index : Widths → ℕ → ℕ
granule_index w a = a / 2 ^ w.pgs % 16

abbrev pub granule_bytes : Widths → ℕ
granule_bytes w = 2 ^ w.pgs

-- the words that a range of this size fills
abbrev pub size_words : Widths → Size → ℕ
size_words w s = bytes_of s / 2 ^ (w.pgs + 4)
