-- Definitions of `granules`: a word as sixteen nibbles, after document 01, "sixteen GPIs, lowest address in the low nibble".
use Rattle.std.specs.Prelude.{ℕ, zero, suc, ◌+◌, ◌*◌, ◌/◌, ◌%◌, ◌^◌, List, [], ◌∷◌, Bool, true, ◌&&◌}

-- nibble i of w, the lowest is 0
abbrev pub nib : ℕ → ℕ → ℕ
nib w i = w / 16 ^ i % 16

-- the n low nibbles of w, lowest first
unfoldable pub nibs : ℕ → ℕ → List ℕ
nibs zero w = []
nibs (suc n) w = w % 16 ∷ nibs n (w / 16)

-- the word of a list of nibbles
unfoldable pub word : List ℕ → ℕ
word [] = 0
word (x ∷ xs) = x + word xs * 16

-- the test passes at each
abbrev pub all : (ℕ → Bool) → List ℕ → Bool
all f [] = true
all f (x ∷ xs) = f x && all f xs
