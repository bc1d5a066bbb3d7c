-- Document 01, "A store is one whole word. Fills run upward", and a cut: "the lent table with the first k stores made". Of the crate
-- `theory`.
use Rattle.std.specs.Prelude.{◌≡◌, List, [], ◌∷◌, map, ℕ, zero, suc, ◌+◌, ◌<◌, take, set, get_or}

-- an index is one of the table
pub record Store : Type 0 where
  pub index : ℕ
  pub word : ℕ

-- a table with these stores made, in order
unfoldable pub apply : List ℕ → List Store → List ℕ
apply t [] = t
apply t (s ∷ ss) = apply (set t s.index s.word) ss

-- a table with the first k of these stores made
unfoldable pub cut : ℕ → List ℕ → List Store → List ℕ
cut k t ss = apply t (take k ss)

-- the stores of a fill: n of one word, upward from a
unfoldable pub fill : ℕ → ℕ → ℕ → List Store
fill a zero w = []
fill a (suc n) w = record { index = a; word = w } ∷ fill (suc a) n w

-- a store of a table that stands in an arena at o, as a store of the arena
abbrev pub moved : ℕ → Store → Store
moved o s = record { index = o + s.index; word = s.word }

abbrev pub shifted : ℕ → List Store → List Store
shifted o ss = map (moved o) ss

-- P holds of every store
abbrev pub Each : (Store → Type 0) → List Store → Type 0
Each P [] = Unit {0}
Each P (s ∷ ss) = P s × Each P ss

-- every store lies within n words
abbrev pub Inside : ℕ → List Store → Type 0
Inside n ss = Each (λ s. s.index < n) ss

-- every store writes a word of which f says what m has at the store's index: it keeps m, the image of a table under f. Said against a fixed
-- m, and not against the running table, so that it is a fact of the list of stores alone
abbrev pub Keeps : (ℕ → ℕ) → List ℕ → List Store → Type 0
Keeps f m ss = Each (λ s. f s.word ≡ get_or m s.index (f 0)) ss
