-- Definitions of `gpi`, after document 01, "Words": the sizes of a contiguous descriptor, "1 is 2 MB, 2 is 32 MB, 3 is 512 MB; 0 is
-- invalid".
use Rattle.std.specs.Prelude.{ℕ, ◌*◌, ◌^◌, [], ◌∷◌, get_or, None, Option, Some}
use Rattle.gpi.specs.declared.Size.{Size}
use Rattle.gpi.specs.declared.Size.TheVariants.{MB2, MB32, MB512}

-- a size's code
abbrev pub size_num : Size → ℕ
size_num MB2 = 1
size_num MB32 = 2
size_num MB512 = 3

-- the size of a code; there is none for 0, nor for a number past the table
abbrev pub size_at : ℕ → Option Size
size_at n = get_or (None ∷ Some MB2 ∷ Some MB32 ∷ Some MB512 ∷ []) n None

-- in bytes
abbrev pub bytes_of : Size → ℕ
bytes_of MB2 = 2 * 2 ^ 20
bytes_of MB32 = 32 * 2 ^ 20
bytes_of MB512 = 512 * 2 ^ 20

-- "the next smaller size"
abbrev pub smaller_of : Size → Option Size
smaller_of MB2 = None
smaller_of MB32 = Some MB2
smaller_of MB512 = Some MB32
