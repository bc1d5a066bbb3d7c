-- Definitions of `l0`, after document 01, "Words": what a word of the L0 table says, and the L0 words that are made.
use Rattle.std.specs.Prelude.{ℕ, ◌+◌, ◌*◌, ◌/◌, ◌%◌, ◌^◌, cond, ◌&&◌, eqb, ltb, None, Option, Some}
use Rattle.gpi.specs.declared.Gpi.{Gpi}
use Rattle.gpi.specs.Gpi.{num, gpi_at}
use Rattle.pa.specs.Pa.{pa}
use Rattle.l0.specs.declared.L0Entry.{L0Entry}
use Rattle.l0.specs.declared.L0Entry.TheVariants.{Block, Table}

abbrev pub block_of : Option Gpi → Option L0Entry
block_of (Some g) = Some (Block g)
block_of None = None

-- "L0 block: low nibble 1, GPI in bits 4 to 7. L0 table: low nibble 3, address is bits 12 to 51 of the word. All other bits are ignored."
unfoldable pub l0_of : ℕ → Option L0Entry
l0_of w =
    cond (eqb (w % 16) 1) (block_of (gpi_at (w / 2 ^ 4 % 2 ^ 4)))
    (cond (eqb (w % 16) 3) (Some (Table (pa (w / 2 ^ 12 % 2 ^ 40 * 2 ^ 12)))) None)

-- the block word of a GPI
abbrev pub block_word : Gpi → ℕ
block_word g = num g * 2 ^ 4 + 1

-- the table word of an address, which must fit bits 12 to 51
unfoldable pub table_word_of : ℕ → Option ℕ
table_word_of a = cond (eqb (a % 4096) 0 && ltb a (2 ^ 52)) (Some (a + 3)) None

-- the paper's number of each case, and the word (0 where there is none)
abbrev pub table_number : Option ℕ → ℕ
table_number (Some w) = 0
table_number None = 6

abbrev pub table_value : Option ℕ → ℕ
table_value (Some w) = w
table_value None = 0
