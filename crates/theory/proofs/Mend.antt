-- Mend: what it keeps, what it writes and counts, and where mends lead. Of the crate `theory`.
use mathlib.Core.Path.{◌≡◌, refl, sym, ap, ◌∙◌}
use mathlib.Core.Bool.{Bool, true, false, cond}
use mathlib.Core.List.{List, [], ◌∷◌, ◌++◌, map}
use Prim.Native.Nat.{ℕ, zero, suc, ◌+◌, ◌≤◌, ◌<◌, min}
use native.Mathlib.Nat.{add-zero, add-suc, suc-add}
use native.Mathlib.Decide.{ℕ_discrete}
use native.Mathlib.Omega.{arith}
use borrow.Author.Tests.{eqb-true, eq-eqb}
use lib.Dec.{eqb}
use lib.ListN.{length, take, length-take, get_or-map}
use lib.Seq.{get_or-set_same, get_or-set_other, ext_get_or, take_all}
use Rattle.theory.specs.Format.{Format, Laws}
use Rattle.theory.specs.Normal.{at, normal_word, normal}
use Rattle.theory.specs.Stores.{Store, apply, Each}
use Rattle.theory.specs.Mend.{differing, repairs, mending, mend, mend_count, mends}
use Rattle.theory.proofs.Lists.{map-length}
use Rattle.theory.proofs.Stores.{each_take, length-apply, apply-append, apply-out, map_apply}
use Rattle.theory.proofs.Normal.{flat-capped, same_normal, length-normal, at-normal}

-- ---- the stores of the words that differ

-- the store of word i
abbrev pub repair : (ℕ → ℕ) → ℕ → Store
repair h i = record { index = i; word = h i }

module _ (r h : ℕ → ℕ) where
  length-repairs : (a n : ℕ) → length (repairs r h a n) ≡ differing r h a n
  unfolding repairs differing
  length-repairs a zero = refl
  length-repairs a (suc n) = go (eqb (r a) (h a)) (length-repairs (suc a) n)
    where
      go : (b : Bool) → length (repairs r h (suc a) n) ≡ differing r h (suc a) n
          → length (cond b (repairs r h (suc a) n) (repair h a ∷ repairs r h (suc a) n)) ≡ cond b 0 1 + differing r h (suc a) n
      go true e = omega arith
      go false e = omega arith

  pub differing-few : (a n : ℕ) → differing r h a n ≤ n
  unfolding differing
  differing-few a zero = omega arith
  differing-few a (suc n) = go (eqb (r a) (h a)) (differing-few (suc a) n)
    where
      go : (b : Bool) → differing r h (suc a) n ≤ n → cond b 0 1 + differing r h (suc a) n ≤ suc n
      go true e = omega arith
      go false e = omega arith

  -- each is one of its words, and differs
  each-repair : (P : Store → Type 0) (a n : ℕ) → ((j : ℕ) → a ≤ j → j < a + n → (r j ≡ h j → ⊥) → P (repair h j)) → Each P (repairs r h a n)
  unfolding repairs
  each-repair P a zero f = tt
  each-repair P a (suc n) f = go (eqb (r a) (h a)) refl (each-repair P (suc a) n (λ j lo hi. f j (omega arith) (omega arith)))
    where
      go : (b : Bool) → eqb (r a) (h a) ≡ b → Each P (repairs r h (suc a) n)
          → Each P (cond b (repairs r h (suc a) n) (repair h a ∷ repairs r h (suc a) n))
      go true p e = e
      go false p e = (
        f a (omega arith) (omega arith) (λ q.
            let z : true ≡ false = sym (eq-eqb (r a) (h a) q) ∙ p in
            let z : ◌≡◌ {A = ℕ} 0 1 = cc in
            omega arith),
        e,
      )

  -- the last word's
  pub repairs-suc : (a n : ℕ) → repairs r h a (suc n) ≡ repairs r h a n ++ cond (eqb (r (a + n)) (h (a + n))) [] (repair h (a + n) ∷ [])
  unfolding repairs
  repairs-suc a zero = rw add-zero refl
  repairs-suc a (suc n) = go (eqb (r a) (h a)) (rw suc-add at (repairs-suc (suc a) n))
    where
      go : (b : Bool)
          → repairs r h (suc a) (suc n)
          ≡ repairs r h (suc a) n ++ cond (eqb (r (suc (a + n))) (h (suc (a + n)))) [] (repair h (suc (a + n)) ∷ [])
          → cond b (repairs r h (suc a) (suc n)) (repair h a ∷ repairs r h (suc a) (suc n))
          ≡ cond b (repairs r h (suc a) n) (repair h a ∷ repairs r h (suc a) n)
          ++ cond (eqb (r (a + suc n)) (h (a + suc n))) [] (repair h (a + suc n) ∷ [])
      go true e = rw add-suc e
      go false e = rw add-suc (ap (λ (l : List Store). repair h a ∷ l) e)

  -- the first k of them are those of the first so many words
  repairs-cut : (k a n : ℕ) → (m : ℕ) × (m ≤ n) × (take k (repairs r h a n) ≡ repairs r h a m)
  unfolding repairs
  repairs-cut zero a n = (0, omega arith, refl)
  repairs-cut (suc k) a zero = (0, omega arith, refl)
  repairs-cut (suc k) a (suc n) = go (eqb (r a) (h a)) refl (repairs-cut (suc k) (suc a) n) (repairs-cut k (suc a) n)
    where
      go : (b : Bool) → eqb (r a) (h a) ≡ b → ((m : ℕ) × (m ≤ n) × (take (suc k) (repairs r h (suc a) n) ≡ repairs r h (suc a) m))
          → ((m : ℕ) × (m ≤ n) × (take k (repairs r h (suc a) n) ≡ repairs r h (suc a) m))
          → (m : ℕ) × (m ≤ suc n) × (take (suc k) (repairs r h a (suc n)) ≡ repairs r h a m)
      go true p x y = (suc x.0, omega arith, rw p x.2)
      go false p x y = (suc y.0, omega arith, rw p (ap (λ (l : List Store). repair h a ∷ l) y.2))

-- what they leave, by index
module _ (t : List ℕ) (h : ℕ → ℕ) where
  pub repairs-out : (a n i : ℕ) → (a ≤ i → i < a + n → ⊥) → at (apply t (repairs (at t) h a n)) i ≡ at t i
  repairs-out a n i q = apply-out t a n (repairs (at t) h a n) (each-repair (at t) h _ a n (λ j lo hi d. (lo, hi))) i q

  repairs-in : (a n i : ℕ) → a ≤ i → i < a + n → i < length t → at (apply t (repairs (at t) h a n)) i ≡ h i
  unfolding apply
  repairs-in a zero i lo hi b = absurd (omega arith)
  repairs-in a (suc n) i lo hi b =
      rw (repairs-suc (at t) h a n, apply-append t (repairs (at t) h a n))
      (go (eqb (at t (a + n)) (h (a + n))) refl (ℕ_discrete i (a + n)) (λ l. repairs-in a n i lo l b))
    where
      go : (c : Bool) → eqb (at t (a + n)) (h (a + n)) ≡ c → Dec (i ≡ a + n) → (i < a + n → at (apply t (repairs (at t) h a n)) i ≡ h i)
          → at (apply (apply t (repairs (at t) h a n)) (cond c [] (repair h (a + n) ∷ []))) i ≡ h i
      go true p (yes q) ih = repairs-out a n i (λ x y. omega arith) ∙ rw q (eqb-true (at t (a + n)) (h (a + n)) p)
      go false p (yes q) ih =
          rw q (get_or-set_same (apply t (repairs (at t) h a n)) (a + n) (h (a + n)) 0 (omega (arith, length-apply t (repairs (at t) h a n))))
      go true p (no q) ih = ih (omega arith)
      go false p (no q) ih = get_or-set_other (apply t (repairs (at t) h a n)) (a + n) i (h (a + n)) 0 q ∙ ih (omega arith)

-- ---- THE THEOREMS

-- What a mend writes and reports, said of the tables. It writes upward and stops: below some index every word is normal, from there on
-- every word is as it was. It reports how many words below that index were not normal.
pub record Upward (F : Format) (u k : ℕ) (t : List ℕ) : Type 0 where
  pub stop : ℕ
  pub within : stop ≤ length t
  pub below : (i : ℕ) → i < stop → at (mend F u k t) i ≡ normal_word F u (at t) i
  pub beyond : (i : ℕ) → stop ≤ i → at (mend F u k t) i ≡ at t i
  pub counted : mend_count F u k t ≡ differing (at t) (normal_word F u (at t)) 0 stop

module _ (F : Format) (u k : ℕ) (t : List ℕ) where
  -- The count that a mend reports is the least of the limit and the number of words that differ.
  pub mend_count-is : mend_count F u k t ≡ min k (differing (at t) (normal_word F u (at t)) 0 (length t))
  unfolding mend_count mending
  mend_count-is =
      length-take k (repairs (at t) (normal_word F u (at t)) 0 (length t))
      ∙ ap (min k) (length-repairs (at t) (normal_word F u (at t)) 0 (length t))

  pub mend-upward : Upward F u k t
  unfolding mend mend_count mending
  mend-upward = go (repairs-cut (at t) (normal_word F u (at t)) k 0 (length t))
    where
      go : ((m : ℕ) × (m ≤ length t)
          × (take k (repairs (at t) (normal_word F u (at t)) 0 (length t)) ≡ repairs (at t) (normal_word F u (at t)) 0 m)) → Upward F u k t
      go (m, b, e) =
          record {
            stop = m;
            within = b;
            below = λ i h. rw e (repairs-in t (normal_word F u (at t)) 0 m i (omega arith) (omega arith) (omega arith));
            beyond = λ i h. rw e (repairs-out t (normal_word F u (at t)) 0 m i (λ x y. omega arith));
            counted = rw e (length-repairs (at t) (normal_word F u (at t)) 0 m);
          }

  -- It stores only words that differ.
  pub mend-only : Each (λ s. at t s.index ≡ s.word → ⊥) (mending F u k t)
  unfolding mending
  mend-only = each_take _ k _ (each-repair (at t) (normal_word F u (at t)) _ 0 (length t) (λ j lo hi d. d))

  pub length-mend : length (mend F u k t) ≡ length t
  unfolding mend
  length-mend = length-apply t (mending F u k t)

module _ (F : Format) (L : Laws F) (u : ℕ) (u-pos : 0 < u) where
  -- A mend of any limit keeps what the table reads.
  pub flat-mend : (k : ℕ) (t : List ℕ) → map F.flat (mend F u k t) ≡ map F.flat t
  unfolding mend mending
  flat-mend k t =
      map_apply F.flat t _
      (each_take _ k _
      (each-repair (at t) (normal_word F u (at t)) _ 0 (length t)
      (λ j lo hi d. flat-capped F L u u-pos (at t) 3 (omega arith) j ∙ sym (get_or-map F.flat t j 0))))

  pub flat-mends : (ks : List ℕ) (t : List ℕ) → map F.flat (mends F u ks t) ≡ map F.flat t
  unfolding mends
  flat-mends [] t = refl
  flat-mends (k ∷ ks) t = flat-mends ks (mend F u k t) ∙ flat-mend k t

  -- A mend that no limit stops leaves the normal table.
  pub mend-all : (k : ℕ) (t : List ℕ) → length t ≤ k → mend F u k t ≡ normal F u t
  unfolding mend mending
  mend-all k t b =
      ext_get_or 0 (mend F u k t) (normal F u t) (length-mend F u k t ∙ sym (length-normal F L u t))
      (λ i h. word i (omega (arith, length-mend F u k t)) ∙ sym (at-normal F L u t i (omega (arith, length-mend F u k t))))
    where
      word : (i : ℕ) → i < length t → at (mend F u k t) i ≡ normal_word F u (at t) i
      word i h =
          rw (take_all k (repairs (at t) (normal_word F u (at t)) 0 (length t))
          (omega (
            arith,
            length-repairs (at t) (normal_word F u (at t)) 0 (length t),
            differing-few (at t) (normal_word F u (at t)) 0 (length t),
          )))
          (repairs-in t (normal_word F u (at t)) 0 (length t) i (omega arith) (omega arith) h)

  -- Mends of any limits, one after the other, and then one that no limit stops: the normal table of the table at the start.
  pub mends-then : (ks : List ℕ) (k : ℕ) (t : List ℕ) → length t ≤ k → mend F u k (mends F u ks t) ≡ normal F u t
  mends-then ks k t h =
      mend-all k (mends F u ks t) (omega (arith, map-length F.flat (mends F u ks t) t (flat-mends ks t)))
      ∙ same_normal F L u (mends F u ks t) t (flat-mends ks t)
