-- Crate mend_table. A part of a table, read as a table of its own: its words are to be what they are to be in the table, and a walk over it
-- is the walk over its place. It begins and ends between two ranges of a level, and so has each of its ranges whole.
use mathlib.Core.Path.{◌≡◌, refl, sym, ap, ◌∙◌}
use mathlib.Core.Bool.{Bool, true, false, ◌&&◌, not, cond}
use mathlib.Core.List.{List, ◌++◌}
use Prim.Native.Nat.{ℕ, zero, suc, ◌+◌, ◌*◌, ◌/◌, ◌≤◌, ◌<◌}
use native.Mathlib.Nat.{add-mul, one-mul, mul_assoc, zero-add, add_assoc, mul-le-mul_right}
use native.Mathlib.Nat.{div-mul-le_self, lt-div-mul-add, div-lt_iff_lt-mul}
use native.Mathlib.Omega.{arith}
use lib.Dec.{eqb, ltb}
use lib.ListN.{length, set, length-set}
use Rattle.std.proofs.lemmas.List.{get_or-append-add, get_or_append_left, set-append_left, set-append_right}
use Rattle.theory.specs.Format.{Format, gpi, reads}
use Rattle.theory.specs.Normal.{at, span, base, alike, largest_alike, normal_up_to}
use Rattle.theory.specs.Inner.{Walk, walked, step, mend_walk, Goes}
use Rattle.theory.proofs.Ranges.{span_pos, base-of}
use Rattle.mend_table.proofs.Lists.{every-there}

-- a range has sixteen parts
pub sixteen : (u l q : ℕ) → q * 16 * span u l ≡ q * span u (suc l)
unfolding span
sixteen u l q = mul_assoc q 16 (span u l)

-- ---- the words

-- n words from a, of r, are the words of s
module _ (F : Format) (u : ℕ) (pos : 0 < u) (r s : ℕ → ℕ) (a n : ℕ) (e : (j : ℕ) → j < n → s j ≡ r (a + j)) where
  alike_there : (l q m : ℕ) → a ≡ q * span u l → n ≡ m * span u l → (i g : ℕ) → i < n
      → alike F s (span u l) i g ≡ alike F r (span u l) (a + i) g
  unfolding alike
  alike_there l q m ea en i g b =
      let pw : 0 < span u l = span_pos u l pos in
      let lo : i / span u l * span u l ≤ i = div-mul-le_self i (span u l) in
      let hi : i < i / span u l * span u l + span u l = lt-div-mul-add pw in
      let few : i / span u l < m = (div-lt_iff_lt-mul pw).1 (rw en at b) in
      let in_n : (i / span u l + 1) * span u l ≤ m * span u l = mul-le-mul_right (span u l) (omega arith) in
      let q' : (q + i / span u l) * span u l ≡ q * span u l + i / span u l * span u l = add-mul q (i / span u l) (span u l) in
      let there : base (span u l) (a + i) ≡ a + base (span u l) i
      = base-of (span u l) (q + i / span u l) (a + i) (omega arith) (omega arith) ∙ omega arith in
      rw there
      (every-there (λ j. reads F (s j) g) (λ j. reads F (r j) g) (base (span u l) i) (a + base (span u l) i) (span u l)
      (λ j h. rw (add_assoc a (base (span u l) i) j, e (base (span u l) i + j) (omega (arith, simp add-mul at in_n))) refl))

  largest_there : (l q m : ℕ) → a ≡ q * span u l → n ≡ m * span u l → (i g : ℕ) → i < n
      → largest_alike F u s i g (suc l) ≡ largest_alike F u r (a + i) g (suc l)
  unfolding largest_alike
  largest_there zero q m ea en i g b = rw (alike_there zero q m ea en i g b, e i b) refl
  largest_there (suc l) q m ea en i g b =
      rw (
        alike_there (suc l) q m ea en i g b,
        largest_there l (q * 16) (m * 16) (ea ∙ sym (sixteen u l q)) (en ∙ sym (sixteen u l m)) i g b,
      ) refl

  normal_there : (l q m : ℕ) → a ≡ q * span u l → n ≡ m * span u l → (i : ℕ) → i < n
      → normal_up_to F u s (suc l) i ≡ normal_up_to F u r (suc l) (a + i)
  unfolding normal_up_to
  normal_there l q m ea en i b = rw (e i b, largest_there l q m ea en i (gpi F (r (a + i))) b) refl

-- the part s is between x and y
module _ (x s y : List ℕ) where
  pub at_part : (i : ℕ) → i < length s → at s i ≡ at (x ++ (s ++ y)) (length x + i)
  at_part i b = sym (get_or-append-add x (s ++ y) i 0 ∙ get_or_append_left s y 0 i b)

  pub normal_part : (F : Format) (u l p : ℕ) → 0 < u → length x ≡ p * span u l → length s ≡ span u l → (i : ℕ) → i < length s
      → normal_up_to F u (at s) (suc l) i ≡ normal_up_to F u (at (x ++ (s ++ y))) (suc l) (length x + i)
  normal_part F u l p pos ex es i b =
      normal_there F u pos (at (x ++ (s ++ y))) (at s) (length x) (length s) at_part l p 1 ex (es ∙ sym (one-mul (span u l))) i b

-- ---- the walk

length-walk : (k : ℕ) (h : ℕ → ℕ) (a m : ℕ) (w : Walk) → length (mend_walk k h a m w).table ≡ length w.table
unfolding mend_walk
length-walk k h a zero w = refl
length-walk k h a (suc m) w = go (mend_walk k h a m w) (length-walk k h a m w)
  where
    go : (v : Walk) → length v.table ≡ length w.table → length (step k h (a + m) v).table ≡ length w.table
    go v e = turn (ltb v.made k && not (eqb (at v.table (a + m)) (h (a + m))))
      where
        turn : (b : Bool) → length (cond {A = Walk} b (walked (set v.table (a + m) (h (a + m))) (suc v.made)) v).table ≡ length w.table
        turn true = length-set v.table (a + m) (h (a + m)) ∙ e
        turn false = e

abbrev placed : List ℕ → List ℕ → Walk → Walk
placed x y w = walked (x ++ (w.table ++ y)) w.made

module _ (x y : List ℕ) (k : ℕ) (g h : ℕ → ℕ) where
  turn_there : (i : ℕ) (w : Walk) → i < length w.table → h i ≡ g (length x + i)
      → step k g (length x + i) (placed x y w) ≡ placed x y (step k h i w)
  turn_there i w b e =
      let z : at (x ++ (w.table ++ y)) (length x + i) ≡ at w.table i
      = get_or-append-add x (w.table ++ y) i 0 ∙ get_or_append_left w.table y 0 i b in
      let s : set (x ++ (w.table ++ y)) (length x + i) (h i) ≡ x ++ (set w.table i (h i) ++ y)
      = set-append_right x (w.table ++ y) (length x) (length x + i) (h i) refl (omega arith)
      ∙ ap (λ (j : ℕ). x ++ set (w.table ++ y) j (h i)) (omega arith)
      ∙ ap (λ (l : List ℕ). x ++ l) (set-append_left w.table y i (h i) b) in
      rw (← e, z, s) (turn (ltb w.made k && not (eqb (at w.table i) (h i))))
    where
      turn : (b : Bool)
          → cond {A = Walk} b (walked (x ++ (set w.table i (h i) ++ y)) (suc w.made)) (placed x y w)
          ≡ placed x y (cond {A = Walk} b (walked (set w.table i (h i)) (suc w.made)) w)
      turn true = refl
      turn false = refl

  walk_there : (m : ℕ) (w : Walk) → m ≤ length w.table → ((i : ℕ) → i < m → h i ≡ g (length x + i))
      → mend_walk k g (length x) m (placed x y w) ≡ placed x y (mend_walk k h 0 m w)
  unfolding mend_walk
  walk_there zero w b e = refl
  walk_there (suc m) w b e =
      rw (walk_there m w (omega arith) (λ i h. e i (omega arith)), zero-add m)
      (turn_there m (mend_walk k h 0 m w) (omega (arith, length-walk k h 0 m w)) (e m (omega arith)))

-- the walk over the part towards its own normal words is one towards the table's
pub goes_part : (F : Format) (u l p : ℕ) (x s y s₂ : List ℕ) (k c c₂ : ℕ) → 0 < u → length x ≡ p * span u l → length s ≡ span u l
    → Goes k (normal_up_to F u (at s) (suc l)) 0 (length s) s c s₂ c₂
    → Goes k (normal_up_to F u (at (x ++ (s ++ y))) (suc l)) (length x) (length s) (x ++ (s ++ y)) c (x ++ (s₂ ++ y)) c₂
goes_part F u l p x s y s₂ k c c₂ pos ex es g =
    ap (placed x y) g
    ∙ sym (walk_there x y k (normal_up_to F u (at (x ++ (s ++ y))) (suc l)) (normal_up_to F u (at s) (suc l)) (length s) (walked s c)
    (omega arith) (normal_part x s y F u l p pos ex es))
