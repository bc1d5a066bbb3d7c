-- Crate mend_table. What the check's yes means: the table is its own normal table, and no mend of it writes anything.
use mathlib.Core.Path.{◌≡◌, refl, sym, ap, ◌∙◌}
use mathlib.Core.Bool.{Bool, true, false, ◌&&◌, cond}
use mathlib.Core.List.{List, map}
use Prim.Native.Nat.{ℕ, zero, suc, ◌+◌, ◌<◌}
use native.Mathlib.Nat.{zero-add}
use native.Mathlib.Decide.{dec_lt, ℕ_discrete}
use native.Mathlib.Omega.{arith}
use borrow.Author.Tests.{eqb-true, eq-eqb, ne_eqb}
use lib.Dec.{eqb}
use lib.ListN.{length}
use lib.Seq.{ext_get_or}
use Rattle.theory.specs.Format.{Format, Laws}
use Rattle.theory.specs.Normal.{at, every, normal_word, normal}
use Rattle.theory.specs.Mend.{differing, mend, mend_count}
use Rattle.theory.proofs.Lists.{every-at, every_of}
use Rattle.theory.proofs.Normal.{length-normal, at-normal, same_normal}
use Rattle.theory.proofs.Mend.{Upward, mend-upward, mend_count-is, length-mend, differing-few}
use Rattle.mend_table.specs.Normal.{is_normal}

-- no word differs exactly if every word is the other's
none-differing : (r h : ℕ → ℕ) (a n : ℕ) → eqb (differing r h a n) 0 ≡ every (λ i. eqb (r i) (h i)) a n
unfolding differing every
none-differing r h a zero = refl
none-differing r h a (suc n) = go (eqb (r a) (h a)) (none-differing r h (suc a) n)
  where
    go : (b : Bool) → eqb (differing r h (suc a) n) 0 ≡ every (λ i. eqb (r i) (h i)) (suc a) n
        → eqb (cond b 0 1 + differing r h (suc a) n) 0 ≡ (b && every (λ i. eqb (r i) (h i)) (suc a) n)
    go true e = rw (zero-add (differing r h (suc a) n)) e
    go false e = ne_eqb (1 + differing r h (suc a) n) 0 (λ z. omega arith)

module _ (F : Format) (u : ℕ) (t : List ℕ) where
  unlimited : mend_count F u (length t) t ≡ differing (at t) (normal_word F u (at t)) 0 (length t)
  unlimited = mend_count-is F u (length t) t ∙ omega (arith, differing-few (at t) (normal_word F u (at t)) 0 (length t))

  -- the check asks each word whether it is normal
  pub normal-fits : is_normal F u t ≡ every (λ i. eqb (at t i) (normal_word F u (at t) i)) 0 (length t)
  unfolding is_normal
  normal-fits = ap (λ (n : ℕ). eqb n 0) unlimited ∙ none-differing (at t) (normal_word F u (at t)) 0 (length t)

  -- ---- THE THEOREMS

  every-normal : is_normal F u t ≡ true → (i : ℕ) → i < length t → at t i ≡ normal_word F u (at t) i
  every-normal y i b =
      eqb-true (at t i) (normal_word F u (at t) i)
      (every-at (λ j. eqb (at t j) (normal_word F u (at t) j)) 0 (length t) (sym normal-fits ∙ y) i (omega arith) (omega arith))

  -- A table on which the check says yes is written by no mend, whatever its limit.
  pub yes_kept : is_normal F u t ≡ true → (k : ℕ) → (mend F u k t ≡ t) × (mend_count F u k t ≡ 0)
  unfolding is_normal
  yes_kept y k =
      let none : mend_count F u (length t) t ≡ 0 = eqb-true (mend_count F u (length t) t) 0 y in (
        ext_get_or 0 (mend F u k t) t (length-mend F u k t) (λ i b. same i (omega (arith, length-mend F u k t))),
        mend_count-is F u k t ∙ omega (arith, unlimited, none),
      )
    where
      go : (up : Upward F u k t) (i : ℕ) → i < length t → Dec (i < up.stop) → at (mend F u k t) i ≡ at t i
      go up i b (yes h) = up.below i h ∙ sym (every-normal y i b)
      go up i b (no h) = up.beyond i (omega arith)

      same : (i : ℕ) → i < length t → at (mend F u k t) i ≡ at t i
      same i b = go (mend-upward F u k t) i b (dec_lt i (mend-upward F u k t).stop)

  -- Where it says no, any mend that may store at all stores.
  pub no_stores : is_normal F u t ≡ false → (k : ℕ) → 0 < k → 0 < mend_count F u k t
  unfolding is_normal
  no_stores n k pos = go (ℕ_discrete (mend_count F u (length t) t) 0)
    where
      go : Dec (mend_count F u (length t) t ≡ 0) → 0 < mend_count F u k t
      go (yes z) =
          let q : true ≡ false = sym (eq-eqb (mend_count F u (length t) t) 0 z) ∙ n in
          let z : ◌≡◌ {A = ℕ} 0 1 = cc in
          absurd (omega arith)
      go (no z) = omega (arith, mend_count-is F u k t, unlimited)

-- It says yes exactly if the table is its own normal table.
module _ (F : Format) (L : Laws F) (u : ℕ) (t : List ℕ) where
  pub yes_normal : is_normal F u t ≡ true → t ≡ normal F u t
  yes_normal y = ext_get_or 0 t (normal F u t) (sym (length-normal F L u t)) (λ i b. every-normal F u t y i b ∙ sym (at-normal F L u t i b))

  pub normal-yes : t ≡ normal F u t → is_normal F u t ≡ true
  normal-yes e =
      normal-fits F u t
      ∙ every_of (λ j. eqb (at t j) (normal_word F u (at t) j)) 0 (length t)
      (λ i lo hi. eq-eqb (at t i) (normal_word F u (at t) i) (ap (λ (l : List ℕ). at l i) e ∙ at-normal F L u t i (omega arith)))

  -- So there is one such table for what is read: a table with the same granules on which the check says yes is the normal table.
  pub yes_the_one : (s : List ℕ) → map F.flat t ≡ map F.flat s → is_normal F u t ≡ true → t ≡ normal F u s
  yes_the_one s e y = yes_normal y ∙ same_normal F L u t s e
