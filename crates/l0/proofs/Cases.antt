-- Worked examples of the definitions of `l0`, by computation alone: the L0 words of document 01's cases.
use mathlib.Core.Path.{◌≡◌, refl}
use Rattle.std.specs.Prelude.{None, Some}
use Rattle.gpi.specs.declared.Gpi.TheVariants.{NonSecure}
use Rattle.pa.specs.Pa.{pa}
use Rattle.l0.specs.L0.{l0_of, block_word, table_word_of, table_number, table_value}
use Rattle.l0.specs.declared.L0Entry.TheVariants.{Block, Table}

-- one opener for all of them
unfoldable opened : Type 0
unfolding l0_of table_word_of
opened = Unit {0}

block : l0_of 0x91 ≡ Some (Block NonSecure)
unfolding opened
block = refl

-- the bits that are ignored, set
block_noise : l0_of 0xFFFF_FFFF_FFFF_FF91 ≡ Some (Block NonSecure)
unfolding opened
block_noise = refl

block_reserved : l0_of 0x21 ≡ None
unfolding opened
block_reserved = refl

table : l0_of 0x8000_0003 ≡ Some (Table (pa 0x8000_0000))
unfolding opened
table = refl

table_noise : l0_of 0xFFF0_0000_8000_0FF3 ≡ Some (Table (pa 0x8000_0000))
unfolding opened
table_noise = refl

neither : l0_of 0x0 ≡ None
unfolding opened
neither = refl

-- its low two bits alone make no table
neither_seven : l0_of 0x8000_0007 ≡ None
unfolding opened
neither_seven = refl

made-block : block_word NonSecure ≡ 0x91
made-block = refl

made_table : (table_number (table_word_of 0x8000_0000) ≡ 0) × (table_value (table_word_of 0x8000_0000) ≡ 0x8000_0003)
unfolding opened
made_table = (refl, refl)

unmade_table : (table_number (table_word_of 0x8000_0800) ≡ 6) × (table_value (table_word_of 0x8000_0800) ≡ 0)
unfolding opened
unmade_table = (refl, refl)
