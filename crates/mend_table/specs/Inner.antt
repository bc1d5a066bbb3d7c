-- Crate mend_table: what its inner functions promise one another. Its public contracts name none of this.
-- There is no rule of its own in it: a mend walks towards the words of the theory's normal table, and the check compares with them, as far
-- as the levels up to a range's go. A slice is read as a table of its own: what the words of a range are to be follows from them alone. The
-- words of 2 MB are not handed down: they follow from a range's length, so what is promised holds of every number of them that fits it.
use Rattle.std.specs.Prelude.{◌≡◌, Bool, true, false, Option, Some, None, List, ℕ, suc, ◌*◌, ◌<◌, eqb, length}
use Rattle.gpi.specs.declared.Gpi.{Gpi}
use Rattle.gpi.specs.Gpi.{num}
use Rattle.theory.specs.Format.{Format, gpi}
use Rattle.theory.specs.Normal.{at, every, span, normal_up_to}
use Rattle.theory.specs.Inner.{Goes, single}
use Rattle.l1.specs.Arm.{level_of}
use Rattle.mend_table.specs.declared.Judged.{Judged}
use Rattle.mend_table.specs.declared.Judged.TheVariants.{Words, Parts}
use Rattle.mend_table.specs.declared.Stores.{Stores}

-- the word that v is to be
abbrev pub wanted_at : Format → Option ℕ → ℕ → ℕ
wanted_at F (Some w) v = w
wanted_at F None v = F.flat v

-- u words are 2 MB where n are a range of level l
pub record Unit_of (u l n : ℕ) : Type 0 where
  pub some : 0 < u
  pub size : n ≡ span u l

-- t is whole ranges of level l, each of n words
pub record Ranges (l n : ℕ) (t : List ℕ) : Type 0 where
  pub unit : ℕ
  pub fits : Unit_of unit l n
  pub count : ℕ
  pub whole : length t ≡ count * n

-- of what one GPI the range t is, if it is
abbrev pub OneIs : Format → List ℕ → Option Gpi → Type 0
OneIs F t (Some g) = (single F (at t) 0 (length t) ≡ true) × (num g ≡ gpi F (at t 0))
OneIs F t None = single F (at t) 0 (length t) ≡ false

-- word i of a range so judged
abbrev pub judged_word : Format → ℕ → (ℕ → ℕ) → Judged → ℕ → ℕ
judged_word F u r (Words want) i = wanted_at F want (r i)
judged_word F u r (Parts s) i = normal_up_to F u r (suc (level_of s)) i

-- the parts are of the next smaller size
abbrev pub Below : ℕ → Judged → Type 0
Below l (Words want) = Unit {0}
Below l (Parts s) = l ≡ suc (level_of s)

-- the judgement x of the range t: its normal words, as far as its level goes, are those of the judgement
pub record Judges (F : Format) (l : ℕ) (t : List ℕ) (x : Judged) : Type 0 where
  pub below : Below l x
  pub words : (u : ℕ) → Unit_of u l (length t) → (i : ℕ) → i < length t → normal_up_to F u (at t) (suc l) i ≡ judged_word F u (at t) x i

-- the walk over the first m words of the ranges t, each of n words, towards their normal words: with the stores b it leaves t₂ and b₂
pub record Mends (F : Format) (l n m : ℕ) (t : List ℕ) (b : Stores) (t₂ : List ℕ) (b₂ : Stores) : Type 0 where
  pub limit : b₂.limit ≡ b.limit
  pub goes : (u : ℕ) → Unit_of u l n → Goes b.limit (normal_up_to F u (at t) (suc l)) 0 m t b.made t₂ b₂.made

-- the answer b of the check on the first m words of the ranges t, each of n words: whether they are their normal words
pub record Fits (F : Format) (l n m : ℕ) (t : List ℕ) (b : Bool) : Type 0 where
  pub same : (u : ℕ) → Unit_of u l n → b ≡ every (λ i. eqb (at t i) (normal_up_to F u (at t) (suc l) i)) 0 m
