-- Laws of stores, in the crate `theory`: lists of them append; a fill, by its turns and by index; stores that keep what a map says of the
-- words, and cuts of them.
use mathlib.Core.Path.{◌≡◌, refl, ap, ◌∙◌}
use mathlib.Core.List.{List, [], ◌∷◌, ◌++◌, map}
use Prim.Native.Nat.{ℕ, zero, suc, ◌+◌, ◌-◌, ◌≤◌, ◌<◌}
use native.Mathlib.Nat.{add-zero, add-suc, suc-add}
use native.Mathlib.Decide.{ℕ_discrete}
use native.Mathlib.Omega.{arith}
use lib.ListN.{length, take, set, get_or-map, length-set}
use lib.Seq.{map-set_same, take-append-le, take-append-add, take-length, get_or-set_same, get_or-set_other}
use Rattle.theory.specs.Normal.{at}
use Rattle.theory.specs.Stores.{Store, apply, cut, fill, Each, Keeps}

-- ---- what holds of every store

module _ (P : Store → Type 0) where
  pub each_append : (a b : List Store) → Each P a → Each P b → Each P (a ++ b)
  each_append [] b h k = k
  each_append (s ∷ ss) b h k = (h.0, each_append ss b h.1 k)

  pub each_take : (k : ℕ) (ss : List Store) → Each P ss → Each P (take k ss)
  each_take zero ss h = tt
  each_take (suc k) [] h = tt
  each_take (suc k) (s ∷ ss) h = (h.0, each_take k ss h.1)

  pub each_fill : (a n w : ℕ) → ((j : ℕ) → a ≤ j → j < a + n → P (record { index = j; word = w })) → Each P (fill a n w)
  unfolding fill
  each_fill a zero w h = tt
  each_fill a (suc n) w h = (h a (omega arith) (omega arith), each_fill (suc a) n w (λ j lo hi. h j (omega arith) (omega arith)))

  pub each_of : (Q : Store → Type 0) → ((s : Store) → P s → Q s) → (ss : List Store) → Each P ss → Each Q ss
  each_of Q h [] e = tt
  each_of Q h (s ∷ ss) e = (h s e.0, each_of Q h ss e.1)

-- ---- stores made

pub length-apply : (t : List ℕ) (ss : List Store) → length (apply t ss) ≡ length t
unfolding apply
length-apply t [] = refl
length-apply t (s ∷ ss) = length-apply (set t s.index s.word) ss ∙ length-set t s.index s.word

pub length_cut : (k : ℕ) (t : List ℕ) (ss : List Store) → length (cut k t ss) ≡ length t
unfolding cut
length_cut k t ss = length-apply t (take k ss)

pub apply-append : (t : List ℕ) (a b : List Store) → apply t (a ++ b) ≡ apply (apply t a) b
unfolding apply
apply-append t [] b = refl
apply-append t (s ∷ ss) b = apply-append (set t s.index s.word) ss b

-- a cut after all the stores is no cut
pub cut_all : (t : List ℕ) (ss : List Store) → cut (length ss) t ss ≡ apply t ss
unfolding cut
cut_all t ss = rw take-length refl

-- every store is among n words from a: the others stay
pub apply-out : (t : List ℕ) (a n : ℕ) (ss : List Store) → Each (λ s. (a ≤ s.index) × (s.index < a + n)) ss
    → (k : ℕ) → (a ≤ k → k < a + n → ⊥) → at (apply t ss) k ≡ at t k
unfolding apply
apply-out t a n [] h k q = refl
apply-out t a n (s ∷ ss) h k q =
    apply-out (set t s.index s.word) a n ss h.1 k q
    ∙ get_or-set_other t s.index k s.word 0 (λ e. q (omega arith) (omega arith))

-- ---- a fill

fill_suc : (a n w : ℕ) → fill a (suc n) w ≡ fill a n w ++ record { index = a + n; word = w } ∷ []
unfolding fill
fill_suc a zero w = rw add-zero refl
fill_suc a (suc n) w = rw (fill_suc (suc a) n w, suc-add, add-suc) refl

-- a fill that grows by one word makes one more store: a turn of its loop
pub apply-fill_suc : (t : List ℕ) (a n w : ℕ) → apply t (fill a (suc n) w) ≡ set (apply t (fill a n w)) (a + n) w
unfolding apply
apply-fill_suc t a n w = rw (fill_suc a n w, apply-append t (fill a n w)) refl

-- what it leaves, by index
pub fill-in : (t : List ℕ) (a n w j : ℕ) → a ≤ j → j < a + n → j < length t → at (apply t (fill a n w)) j ≡ w
fill-in t a zero w j lo hi b = absurd (omega arith)
fill-in t a (suc n) w j lo hi b = rw (apply-fill_suc t a n w) (go (ℕ_discrete j (a + n)) (λ h. fill-in t a n w j lo h b))
  where
    go : Dec (j ≡ a + n) → (j < a + n → at (apply t (fill a n w)) j ≡ w) → at (set (apply t (fill a n w)) (a + n) w) j ≡ w
    go (yes q) ih = rw (← q) (get_or-set_same (apply t (fill a n w)) j w 0 (rw (length-apply t (fill a n w)) b))
    go (no q) ih = get_or-set_other (apply t (fill a n w)) (a + n) j w 0 q ∙ ih (omega arith)

pub fill-out : (t : List ℕ) (a n w j : ℕ) → (a ≤ j → j < a + n → ⊥) → at (apply t (fill a n w)) j ≡ at t j
fill-out t a n w j h = apply-out t a n (fill a n w) (each_fill _ a n w (λ j lo hi. (lo, hi))) j h

-- ---- stores that keep what f says

pub map-set : (f : ℕ → ℕ) (t : List ℕ) (i w : ℕ) → map f (set t i w) ≡ set (map f t) i (f w)
map-set f [] i w = refl
map-set f (x ∷ xs) zero w = refl
map-set f (x ∷ xs) (suc i) w = ap (λ (r : List ℕ). f x ∷ r) (map-set f xs i w)

-- stores that keep the image keep it
pub map_apply : (f : ℕ → ℕ) (t : List ℕ) (ss : List Store) → Keeps f (map f t) ss → map f (apply t ss) ≡ map f t
unfolding apply
map_apply f t [] k = refl
map_apply f t (s ∷ ss) k =
    let e : map f (set t s.index s.word) ≡ map f t
    = map-set_same f t s.index s.word 0 (k.0 ∙ get_or-map f t s.index 0) in
    map_apply f (set t s.index s.word) ss (rw e k.1) ∙ e

-- stores a, one store s, stores b: where those of a keep the old image and those of b the image with s made
module _ (f : ℕ → ℕ) (t : List ℕ) (a : List Store) (s : Store) (b : List Store) (ka : Keeps f (map f t) a) where
  -- up to s the image is the old one
  pub cut-before : (k : ℕ) → k ≤ length a → map f (cut k t (a ++ s ∷ b)) ≡ map f t
  unfolding cut
  cut-before k le = rw (take-append-le k a (s ∷ b)) (map_apply f t (take k a) (each_take _ k a ka))

  -- from s on the new one
  pub cut-after : Keeps f (set (map f t) s.index (f s.word)) b → (k : ℕ) → length a < k
      → map f (cut k t (a ++ s ∷ b)) ≡ set (map f t) s.index (f s.word)
  unfolding cut apply
  cut-after kb k lt =
      let m : ℕ = k - suc (length a) in
      let e : k ≡ length a + suc m = omega arith in
      let t₂ : List ℕ = set (apply t a) s.index s.word in
      let e₂ : map f t₂ ≡ set (map f t) s.index (f s.word)
      = map-set f (apply t a) s.index s.word ∙ rw (map_apply f t a ka) refl in
      rw (e, take-append-add a (s ∷ b) (suc m), apply-append t a (s ∷ take m b))
      (map_apply f t₂ (take m b) (rw e₂ (each_take _ m b kb)) ∙ e₂)
