-- Aligned ranges: one within another, and within a table of whole 512 MB ranges. Of the crate `theory`.
use mathlib.Core.Path.{◌≡◌, sym, ap}
use mathlib.Core.List.{List}
use Prim.Native.Nat.{ℕ, zero, suc, ◌+◌, ◌*◌, ◌/◌, ◌≤◌, ◌<◌}
use native.Mathlib.Nat.{div-div-eq-div-mul, mul_comm, mul_assoc, mul-le-mul_right, add-mul, div-mul-le_self, lt-div-mul-add}
use native.Mathlib.Nat.{div-eq_of_lt-le, div-lt_iff_lt-mul, zero-add, suc-add}
use native.Mathlib.Decide.{dec_lt}
use native.Mathlib.Omega.{arith}
use lib.ListN.{length}
use Rattle.theory.specs.Normal.{span, base, In}

pub span_pos : (u l : ℕ) → 0 < u → 0 < span u l
unfolding span
span_pos u zero h = h
span_pos u (suc l) h = omega (arith, span_pos u l h)

-- ---- a range within one of sixteen times its words

base-up : (n i : ℕ) → base (16 * n) i ≡ i / n / 16 * 16 * n
base-up n i = rw (mul_comm 16 n, ← (div-div-eq-div-mul i n 16), mul_comm n 16) (sym (mul_assoc (i / n / 16) 16 n))

pub base-lo : (n i : ℕ) → base (16 * n) i ≤ base n i
base-lo n i = rw (base-up n i) (mul-le-mul_right n (div-mul-le_self (i / n) 16))

pub base-hi : (n i : ℕ) → base n i + n ≤ base (16 * n) i + 16 * n
base-hi n i =
    let q : i / n + 1 ≤ i / n / 16 * 16 + 16 = omega arith in
    let h : (i / n + 1) * n ≤ (i / n / 16 * 16 + 16) * n = mul-le-mul_right n q in
    rw (base-up n i) (omega (arith, simp add-mul at h))

-- the aligned range around an index of it
pub base-of : (n q i : ℕ) → q * n ≤ i → i < q * n + n → base n i ≡ q * n
base-of n q i lo hi = ap (λ k. k * n) (div-eq_of_lt-le n lo (rw add-mul (omega arith)))

-- ---- being in a range

pub in_of : (n i k : ℕ) → base n i ≤ k → k < base n i + n → In n i k
in_of n i k a b = record { from = a; to = b }

pub in_dec : (n i k : ℕ) → Dec (In n i k)
in_dec n i k = go (dec_lt k (base n i)) (dec_lt k (base n i + n))
  where
    go : Dec (k < base n i) → Dec (k < base n i + n) → Dec (In n i k)
    go (yes a) b = no (λ h. omega (arith, h.from))
    go (no a) (yes b) = yes (in_of n i k (omega arith) b)
    go (no a) (no b) = no (λ h. omega (arith, h.to))

pub in_self : (n i : ℕ) → 0 < n → In n i i
in_self n i h = record { from = div-mul-le_self i n; to = lt-div-mul-add h }

pub in_base : (n i k : ℕ) → In n i k → base n k ≡ base n i
in_base n i k h = base-of n (i / n) k h.from h.to

pub in_sym : (n i k : ℕ) → 0 < n → In n i k → In n k i
in_sym n i k p h =
    record { from = omega (arith, in_base n i k h, div-mul-le_self i n); to = omega (arith, in_base n i k h, lt-div-mul-add {a = i} p) }

pub in_trans : (n i k j : ℕ) → In n i k → In n k j → In n i j
in_trans n i k j a b = record { from = omega (arith, in_base n i k a); to = omega (arith, in_base n i k a) }

-- in the range of the next level, and of d levels up
pub in_up : (u l i k : ℕ) → In (span u l) i k → In (span u (suc l)) i k
unfolding span
in_up u l i k h = record { from = omega (arith, base-lo (span u l) i); to = omega (arith, base-hi (span u l) i) }

pub in_le : (u l d i k : ℕ) → In (span u l) i k → In (span u (d + l)) i k
in_le u l zero i k h = rw zero-add h
in_le u l (suc d) i k h = rw suc-add (in_up u (d + l) i k (in_le u l d i k h))

-- ---- in a table of m ranges of 512 MB

module _ (u : ℕ) (u-pos : 0 < u) (t : List ℕ) (m : ℕ) (regions : length t ≡ m * span u 2) (i : ℕ) (i< : i < length t) where
  top_in : base (span u 2) i + span u 2 ≤ length t
  top_in =
      let h : 0 < span u 2 = span_pos u 2 u-pos in
      let d : i / span u 2 < m = (div-lt_iff_lt-mul h).1 (rw (← regions) i<) in
      let w : (i / span u 2 + 1) * span u 2 ≤ m * span u 2 = mul-le-mul_right (span u 2) (omega arith) in
      omega (arith, simp add-mul at w)

  -- every aligned range around an index of the table lies in it
  pub range_in : (l : ℕ) → l < 3 → base (span u l) i + span u l ≤ length t
  unfolding span
  range_in zero b = omega (arith, top_in, base-hi u i, base-hi (16 * u) i)
  range_in (suc zero) b = omega (arith, top_in, base-hi (16 * u) i)
  range_in (suc (suc zero)) b = top_in
  range_in (suc (suc (suc l))) b = absurd (omega arith)

  pub in_table : (l k : ℕ) → l < 3 → In (span u l) i k → k < length t
  in_table l k c h = omega (arith, h.to, range_in l c)
