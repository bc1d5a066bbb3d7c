-- Definitions of `granules`, after document 01, "Words": sixteen GPIs as a word, read back, and one of them stored.
use Rattle.std.specs.Prelude.{ℕ, ◌*◌, List, map, set}
use Rattle.gpi.specs.declared.Gpi.{Gpi}
use Rattle.gpi.specs.declared.Gpi.TheVariants.{NoAccess}
use Rattle.gpi.specs.Gpi.{num, gpi_at}
use Rattle.granules.specs.Nibs.{nibs, word}
use Rattle.std.specs.Prelude.{None, Option, Some}

-- "A word is made from an array of sixteen GPIs and read back into one." A reserved nibble comes back as NoAccess: only of a word of
-- sixteen GPIs are these its granules (`gpis_nibs` of `l1`).
abbrev pub granule_word : List Gpi → ℕ
granule_word gs = word (map num gs)

abbrev pub or_no_access : Option Gpi → Gpi
or_no_access (Some g) = g
or_no_access None = NoAccess

unfoldable pub gpis_of : ℕ → List Gpi
gpis_of w = map (λ n. or_no_access (gpi_at n)) (nibs 16 w)

-- the granule store: w with nibble i made n
abbrev pub put : ℕ → ℕ → ℕ → ℕ
put w i n = word (set (nibs 16 w) i n)

-- the nibble n sixteen times (`repeat16`)
abbrev pub repeated : ℕ → ℕ
repeated n = n * 0x1111_1111_1111_1111
