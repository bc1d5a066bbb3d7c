-- The dump's image as it is written: the bytes of a content in a version, from document 01's list of fields. `proofs/RoundTrip` and
-- `proofs/Only` show that this and the reader are one format: what is written is read back, and only what is written reads as whole. Crate
-- `dump_image`.
use Rattle.std.specs.Prelude.{List, [], ◌∷◌, ◌++◌, ℕ, zero, suc, ◌/◌, ◌%◌, ◌^◌, ◌≤◌, ◌<◌, length}
use Rattle.config.specs.declared.Config.{Config}
use Rattle.config.specs.Flags.{flags_of}

-- what an image is of
pub record Content : Type 0 where
  pub config : Config
  pub base : ℕ
  pub l0 : List ℕ
  pub arena : List ℕ

-- each is below the bound
abbrev pub Below : ℕ → List ℕ → Type 0
Below n [] = Unit {0}
Below n (x ∷ xs) = (x < n) × Below n xs

-- that it can be written: fields are bytes, words are of 64 bits, and "At most 64 L0 and 4,096 arena words"
pub record Lawful (x : Content) : Type 0 where
  pub pps : x.config.pps < 256
  pub pgs : x.config.pgs < 256
  pub l0gptsz : x.config.l0gptsz < 256
  pub base : x.base < 2 ^ 64
  pub l0_most : length x.l0 ≤ 64
  pub arena_most : length x.arena ≤ 4096
  pub l0 : Below (2 ^ 64) x.l0
  pub arena : Below (2 ^ 64) x.arena

-- "All big-endian": a number as n bytes
unfoldable pub bytes : ℕ → ℕ → List ℕ
bytes zero w = []
bytes (suc n) w = bytes n (w / 256) ++ (w % 256 ∷ [])

unfoldable pub words_bytes : List ℕ → List ℕ
words_bytes [] = []
words_bytes (w ∷ ws) = bytes 8 w ++ words_bytes ws

-- the fields of a version: "PPS, PGS, L0GPTSZ, flags"
abbrev pub fields_of : ℕ → Config → List ℕ
fields_of v c = c.pps ∷ c.pgs ∷ c.l0gptsz ∷ flags_of c ∷ []

-- ".. arena base (8), L0 count (4), arena count (4), L0 words, arena words"
unfoldable pub rest_of : ℕ → Content → List ℕ
rest_of v x =
    fields_of v x.config
    ++ (bytes 8 x.base
    ++ (bytes 4 (length x.l0)
    ++ (bytes 4 (length x.arena)
    ++ (words_bytes x.l0 ++ words_bytes x.arena))))

-- "version byte 1; 4-byte length of the rest; then .."
unfoldable pub image_of : ℕ → Content → List ℕ
image_of v x = (v ∷ []) ++ (bytes 4 (length (rest_of v x)) ++ rest_of v x)
