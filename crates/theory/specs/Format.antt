-- Document 01, "Words", as far as tables have to know it: a record of the word format's functions, and apart from it a record of their
-- laws. Definitions take the functions alone, theorems the laws as well, so that each edition of the format is one more value of both. Of
-- the crate `theory`.
use Rattle.std.specs.Prelude.{◌≡◌, ◌≢◌, Bool, true, false, ◌&&◌, cond, ℕ, suc, ◌<◌, eqb}
use Rattle.std.proofs.Math.Option.{Option, none, some}

-- Words and GPIs are numbers. A level is 0 for 2 MB, 1 for 32 MB, 2 for 512 MB.
pub record Format : Type 0 where
  -- the word is a valid L1 word, contiguous or of sixteen granules
  pub valid : ℕ → Bool
  -- a valid contiguous word as the granule word that reads the same; any other word, valid or not, as it is
  pub flat : ℕ → ℕ
  -- the GPI of a granule word's lowest granule
  pub low : ℕ → ℕ
  -- the number is one of a GPI
  pub known : ℕ → Bool
  -- the granule word of sixteen g
  pub rep : ℕ → ℕ
  -- the contiguous word of a level and a GPI, as it is written
  pub contig : ℕ → ℕ → ℕ
  -- the size code of a valid contiguous word, which is its level + 1; 0 for any other word
  pub size : ℕ → ℕ
  -- granule j of a granule word, j from 0 to 15
  pub granule : ℕ → ℕ → ℕ
  -- a granule word with granule j made g
  pub put : ℕ → ℕ → ℕ → ℕ

pub record Laws (F : Format) : Type 0 where
  -- a flat word is its own flat word
  pub flat-flat : (w : ℕ) → F.flat (F.flat w) ≡ F.flat w
  -- it is valid where the word is
  pub valid_flat : (w : ℕ) → F.valid (F.flat w) ≡ F.valid w
  -- an invalid word is flat
  pub flat-invalid : (w : ℕ) → F.valid w ≡ false → F.flat w ≡ w
  -- a valid word's lowest granule is a GPI
  pub known_low : (w : ℕ) → F.valid w ≡ true → F.known (F.low (F.flat w)) ≡ true
  -- a contiguous word that is written reads its GPI sixteen times
  pub flat-contig : (l g : ℕ) → l < 3 → F.known g ≡ true → F.flat (F.contig l g) ≡ F.rep g
  -- size codes are 1, 2, 3
  pub size_small : (w l : ℕ) → F.size w ≡ suc l → l < 3
  -- a word with a size code is valid
  pub size_valid : (w l : ℕ) → F.size w ≡ suc l → F.valid w ≡ true
  -- and reads its GPI sixteen times
  pub size_rep : (w l : ℕ) → F.size w ≡ suc l → F.flat w ≡ F.rep (F.low (F.flat w))
  -- a word without one is flat
  pub size_flat : (w : ℕ) → F.size w ≡ 0 → F.flat w ≡ w
  -- a flat word has none
  pub size_of-flat : (w : ℕ) → F.size (F.flat w) ≡ 0
  -- a contiguous word that is written has the size code of its level
  pub size_contig : (l g : ℕ) → l < 3 → F.known g ≡ true → F.size (F.contig l g) ≡ suc l
  -- the lowest granule of sixteen g, and each other
  pub low_rep : (g : ℕ) → F.known g ≡ true → F.low (F.rep g) ≡ g
  pub granule_rep : (g j : ℕ) → j < 16 → F.known g ≡ true → F.granule (F.rep g) j ≡ g
  -- a valid word's granules with one made a GPI are a valid word
  pub put-valid : (w j g : ℕ) → F.valid w ≡ true → j < 16 → F.known g ≡ true → F.valid (F.put (F.flat w) j g) ≡ true
  -- which is flat
  pub put-flat : (w j g : ℕ) → F.valid w ≡ true → j < 16 → F.known g ≡ true → F.flat (F.put (F.flat w) j g) ≡ F.put (F.flat w) j g
  -- it reads that GPI there
  pub put_same : (w j g : ℕ) → F.valid w ≡ true → j < 16 → F.known g ≡ true → F.granule (F.put (F.flat w) j g) j ≡ g
  -- and as before at the fifteen others
  pub put_other : (w j g k : ℕ) → F.valid w ≡ true → j < 16 → F.known g ≡ true → k < 16 → k ≢ j
      → F.granule (F.put (F.flat w) j g) k ≡ F.granule (F.flat w) k

-- a valid word's GPI at its lowest granule: of a contiguous word, its GPI
abbrev pub gpi : Format → ℕ → ℕ
gpi F w = F.low (F.flat w)

-- the word is valid and reads g in all sixteen granules
unfoldable pub reads : Format → ℕ → ℕ → Bool
reads F w g = F.valid w && eqb (F.flat w) (F.rep g)

-- what a lookup reads at granule j of a word: "one reserved nibble makes the word invalid for all sixteen"
unfoldable pub reading : Format → ℕ → ℕ → Option ℕ
reading F w j = cond (F.valid w) (some (F.granule (F.flat w) j)) none
