-- Mend as its code goes: a walk over stretches of the table, one turn for each word. `proofs/MendWalk` shows that a walk over all of it is
-- the mend of document 01. Of the crate `theory`.
use Rattle.std.specs.Prelude.{◌≡◌, Bool, cond, ◌&&◌, not, List, ℕ, zero, suc, ◌+◌, eqb, ltb, set}
use Rattle.theory.specs.Format.{Format, gpi, reads}
use Rattle.theory.specs.Normal.{at, every}

-- the table so far, and the stores made
pub record Walk : Type 0 where
  pub table : List ℕ
  pub made : ℕ

abbrev pub walked : List ℕ → ℕ → Walk
walked t c = record { table = t; made = c }

-- one turn, with the limit k: word i is stored if it differs from h and a store is left
abbrev pub step : ℕ → (ℕ → ℕ) → ℕ → Walk → Walk
step k h i s = cond (ltb s.made k && not (eqb (at s.table i) (h i))) (walked (set s.table i (h i)) (suc s.made)) s

-- m words from a
unfoldable pub mend_walk : ℕ → (ℕ → ℕ) → ℕ → ℕ → Walk → Walk
mend_walk k h a zero s = s
mend_walk k h a (suc m) s = step k h (a + m) (mend_walk k h a m s)

-- what a routine does: from the table t with c stores made to t₂ and c₂
abbrev pub Goes : ℕ → (ℕ → ℕ) → ℕ → ℕ → List ℕ → ℕ → List ℕ → ℕ → Type 0
Goes k h a m t c t₂ c₂ = walked t₂ c₂ ≡ mend_walk k h a m (walked t c)

-- what a routine asks of a range: n words from a are valid and of the lowest one's GPI
unfoldable pub single : Format → (ℕ → ℕ) → ℕ → ℕ → Bool
single F r a n = every (λ j. reads F (r j) (gpi F (r a))) a n
