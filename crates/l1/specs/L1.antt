-- Definitions of `l1`, after document 01, "Words": what a word of an L1 table says, the L1 words that are made, and `flat`, on which the
-- theory of tables stands.
use Rattle.std.specs.Prelude.{ℕ, ◌+◌, ◌*◌, ◌/◌, ◌%◌, ◌^◌, Bool, true, false, cond, eqb, None, Option, Some}
use Rattle.gpi.specs.declared.Gpi.{Gpi}
use Rattle.gpi.specs.declared.Size.{Size}
use Rattle.gpi.specs.Gpi.{num, gpi_at, known_at}
use Rattle.gpi.specs.Size.{size_num, size_at}
use Rattle.granules.specs.Nibs.{nib, nibs, all}
use Rattle.granules.specs.Packed.{repeated}
use Rattle.l1.specs.declared.L1Entry.{L1Entry}
use Rattle.l1.specs.declared.L1Entry.TheVariants.{Contiguous, Granules}

-- ---- what a word says

-- "L1 contiguous: low nibble 1, GPI in bits 4 to 7, size in bits 8 and 9 (..; 0 is invalid). Higher bits ignored when read"
abbrev pub contiguous_of : Option Gpi → Option Size → Option L1Entry
contiguous_of (Some g) (Some s) = Some (Contiguous g s)
contiguous_of (Some g) None = None
contiguous_of None c = None

-- "L1 granules: sixteen GPIs .. One reserved nibble makes the word invalid for all sixteen."
abbrev pub granules_of : Bool → Option L1Entry
granules_of true = Some Granules
granules_of false = None

unfoldable pub l1_of : ℕ → Option L1Entry
l1_of w =
    cond (eqb (w % 16) 1) (contiguous_of (gpi_at (w / 2 ^ 4 % 2 ^ 4)) (size_at (w / 2 ^ 8 % 2 ^ 2)))
    (granules_of (all known_at (nibs 16 w)))

-- what granule i of a word reads: its GPI, or nothing where the word is invalid
abbrev pub read_of : Option L1Entry → ℕ → ℕ → Option Gpi
read_of (Some (Contiguous g s)) w i = Some g
read_of (Some Granules) w i = gpi_at (nib w i)
read_of None w i = None

abbrev pub read_at : ℕ → ℕ → Option Gpi
read_at w i = read_of (l1_of w) w i

-- a word against a GPI, as a scan asks: "the first word that isn't all the new GPI (no match) or is invalid"
abbrev pub match_of : Option L1Entry → ℕ → Gpi → Option Bool
match_of (Some (Contiguous h s)) w g = Some (eqb (num h) (num g))
match_of (Some Granules) w g = Some (all (eqb (num g)) (nibs 16 w))
match_of None w g = None

abbrev pub match_at : ℕ → Gpi → Option Bool
match_at w g = match_of (l1_of w) w g

-- ---- words that are made

-- the contiguous word of a size code and a GPI's number; "zero when written" of the higher bits
abbrev pub contig_of : ℕ → ℕ → ℕ
contig_of c g = c * 2 ^ 8 + g * 2 ^ 4 + 1

abbrev pub contig_word : Size → Gpi → ℕ
contig_word s g = contig_of (size_num s) (num g)

-- ---- flat: a contiguous word as the granule word that reads the same, any other word as it is

abbrev pub flat_of : Option L1Entry → ℕ → ℕ
flat_of (Some (Contiguous g s)) w = repeated (num g)
flat_of (Some Granules) w = w
flat_of None w = w

abbrev pub flat : ℕ → ℕ
flat w = flat_of (l1_of w) w
