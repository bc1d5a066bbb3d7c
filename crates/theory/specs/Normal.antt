-- Document 01, "Agreement, normal tables, mend", its second sentence: "The normal table keeps each invalid word; each valid word takes the
-- largest of 512, 32, 2 MB whose aligned range is valid throughout and of one GPI, as that contiguous word; else its sixteen granules."
-- Over u, the words of 2 MB: 32, 8 or 2 by the granule size. Of the crate `theory`.
use Rattle.std.specs.Prelude.{Bool, true, ◌&&◌, cond, List, [], ◌∷◌, ℕ, zero, suc, ◌+◌, ◌*◌, ◌/◌, ◌≤◌, ◌<◌, length, get_or}
use Rattle.theory.specs.Format.{Format, gpi, reads}

-- the word at an index; 0 past the end
abbrev pub at : List ℕ → ℕ → ℕ
at t i = get_or t i 0

-- words of a level: 2 MB, 32 MB, 512 MB
unfoldable pub span : ℕ → ℕ → ℕ
span u zero = u
span u (suc l) = 16 * span u l

-- the start of the aligned range of n words around i
abbrev pub base : ℕ → ℕ → ℕ
base n i = i / n * n

-- k is in the aligned range of n words around i
pub record In (n i k : ℕ) : Type 0 where
  pub from : base n i ≤ k
  pub to : k < base n i + n

-- the test passes at n indices from a
unfoldable pub every : (ℕ → Bool) → ℕ → ℕ → Bool
every p a zero = true
every p a (suc n) = p a && every p (suc a) n

-- the aligned range of n words around i is valid throughout and of the GPI g; `r` gives the words by index
unfoldable pub alike : Format → (ℕ → ℕ) → ℕ → ℕ → ℕ → Bool
alike F r n i g = every (λ j. reads F (r j) g) (base n i) n

-- the largest of the first n levels whose range is alike, as its contiguous word; else the sixteen granules
unfoldable pub largest_alike : Format → ℕ → (ℕ → ℕ) → ℕ → ℕ → ℕ → ℕ
largest_alike F u r i g zero = F.flat (r i)
largest_alike F u r i g (suc l) = cond (alike F r (span u l) i g) (F.contig l g) (largest_alike F u r i g l)

-- the normal word as far as the first n levels go; an invalid word is kept
unfoldable pub normal_up_to : Format → ℕ → (ℕ → ℕ) → ℕ → ℕ → ℕ
normal_up_to F u r n i = cond (F.valid (r i)) (largest_alike F u r i (gpi F (r i)) n) (r i)

-- the normal word: all three
abbrev pub normal_word : Format → ℕ → (ℕ → ℕ) → ℕ → ℕ
normal_word F u r i = normal_up_to F u r 3 i

-- the list of h at n indices from a
unfoldable pub build : (ℕ → ℕ) → ℕ → ℕ → List ℕ
build h a zero = []
build h a (suc n) = h a ∷ build h (suc a) n

unfoldable pub normal : Format → ℕ → List ℕ → List ℕ
normal F u t = build (normal_word F u (at t)) 0 (length t)
