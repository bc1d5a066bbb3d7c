-- Definitions of `l1`: the Arm format of L1 words, edition 1, as the theory of tables asks for it, from the definitions of `L1`. That its
-- functions have the theory's laws is shown in `proofs/Arm`.
use Rattle.std.specs.Prelude.{ℕ, ◌+◌, ◌%◌, Bool, true, false, None, Option, Some}
use Rattle.gpi.specs.declared.Size.{Size}
use Rattle.gpi.specs.declared.Size.TheVariants.{MB2, MB32, MB512}
use Rattle.gpi.specs.Gpi.{known_at}
use Rattle.gpi.specs.Size.{size_num}
use Rattle.theory.specs.Format.{Format}
use Rattle.granules.specs.Nibs.{nib}
use Rattle.granules.specs.Packed.{repeated, put}
use Rattle.l1.specs.L1.{l1_of, contig_of, flat}
use Rattle.l1.specs.declared.L1Entry.{L1Entry}
use Rattle.l1.specs.declared.L1Entry.TheVariants.{Contiguous, Granules}

abbrev pub valid_of : Option L1Entry → Bool
valid_of (Some (Contiguous g s)) = true
valid_of (Some Granules) = true
valid_of None = false

-- the size code; 0 where the word isn't contiguous
abbrev pub size_of : Option L1Entry → ℕ
size_of (Some (Contiguous g s)) = size_num s
size_of (Some Granules) = 0
size_of None = 0

-- the theory's level of a size: 0, 1, 2 for the codes 1, 2, 3
abbrev pub level_of : Size → ℕ
level_of MB2 = 0
level_of MB32 = 1
level_of MB512 = 2

-- the contiguous word of a level, which is its size code less one
abbrev pub contig_at : ℕ → ℕ → ℕ
contig_at l g = contig_of (l + 1) g

abbrev pub arm : Format
arm =
    record {
      valid = λ w. valid_of (l1_of w);
      flat = flat;
      low = λ w. w % 16;
      known = known_at;
      rep = repeated;
      contig = contig_at;
      size = λ w. size_of (l1_of w);
      granule = nib;
      put = put;
    }
