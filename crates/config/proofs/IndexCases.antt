-- Worked examples of the index rules, by computation alone. Crate `config`.
use mathlib.Core.Path.{◌≡◌, refl}
use Prim.Native.Nat.{◌^◌}
use Rattle.gpi.specs.declared.Size.TheVariants.{MB2, MB512}
use Rattle.config.specs.declared.Widths.{Widths}
use Rattle.config.specs.Index.{l0_entries, l0_index, l1_words, l1_index, granule_index, granule_bytes, size_words}

-- arrangement B's numbers: four entries, tables of 1,024 words, two words to 2 MB
abbrev b : Widths
b = record { pps = 32; pgs = 16; l0gptsz = 30 }

counts : (l0_entries b ≡ 4) × (l1_words b ≡ 1024) × (size_words b MB2 ≡ 2) × (size_words b MB512 ≡ 512) × (granule_bytes b ≡ 0x1_0000)
counts = (refl, refl, refl, refl, refl)

places : (l0_index b 0x4123_4567 ≡ 1) × (l1_index b 0x4123_4567 ≡ 18) × (granule_index b 0x4123_4567 ≡ 3)
places = (refl, refl, refl)

-- the largest table
largest : l1_words (record { pps = 52; pgs = 12; l0gptsz = 39 }) ≡ 2 ^ 23
largest = refl
