-- Document 01, "Agreement, normal tables, mend": "Mend takes … a store limit, writes upward, only words that differ, stops at the limit and
-- reports how many; a cut mend is one so limited." Of the crate `theory`.
use Rattle.std.specs.Prelude.{cond, List, [], ◌∷◌, ℕ, zero, suc, ◌+◌, eqb, length, take}
use Rattle.theory.specs.Format.{Format}
use Rattle.theory.specs.Normal.{at, normal_word}
use Rattle.theory.specs.Stores.{Store, apply}

-- how many of n words from a differ, by two rules for the words
unfoldable pub differing : (ℕ → ℕ) → (ℕ → ℕ) → ℕ → ℕ → ℕ
differing r h a zero = 0
differing r h a (suc n) = cond (eqb (r a) (h a)) 0 1 + differing r h (suc a) n

-- upward, a store of each word that differs
unfoldable pub repairs : (ℕ → ℕ) → (ℕ → ℕ) → ℕ → ℕ → List Store
repairs r h a zero = []
repairs r h a (suc n) = cond (eqb (r a) (h a)) (repairs r h (suc a) n) (record { index = a; word = h a } ∷ repairs r h (suc a) n)

-- the stores of a mend of the limit k
unfoldable pub mending : Format → ℕ → ℕ → List ℕ → List Store
mending F u k t = take k (repairs (at t) (normal_word F u (at t)) 0 (length t))

unfoldable pub mend : Format → ℕ → ℕ → List ℕ → List ℕ
mend F u k t = apply t (mending F u k t)

-- the number that it reports
unfoldable pub mend_count : Format → ℕ → ℕ → List ℕ → ℕ
mend_count F u k t = length (mending F u k t)

-- mends of these limits, one after the other
unfoldable pub mends : Format → ℕ → List ℕ → List ℕ → List ℕ
mends F u [] t = t
mends F u (k ∷ ks) t = mends F u ks (mend F u k t)
