-- Aligned stretches of 2^k addresses: their last address, and what their addresses share.
use mathlib.Core.Path.{◌≡◌, sym, ap, ◌∙◌, subst}
use Prim.Native.Nat.{ℕ, ◌+◌, ◌-◌, ◌*◌, ◌/◌, ◌%◌, ◌^◌, ◌≤◌, ◌<◌}
use native.Mathlib.Nat.{div-eq_of_lt-le, div-mul-le_self, lt-div-mul-add, add-mul, mul-le-mul_right, div-lt_iff_lt-mul}
use native.Mathlib.Omega.{arith}
use lib.Pow.{pow_pos, pow_mono, pow-add, shr-shr, field}

-- the last address of the stretch that holds a
abbrev pub last_of : ℕ → ℕ → ℕ
last_of a k = a / 2 ^ k * 2 ^ k + (2 ^ k - 1)

pub last_from : (a k : ℕ) → a ≤ last_of a k
last_from a k = let h : a < a / 2 ^ k * 2 ^ k + 2 ^ k = lt-div-mul-add (pow_pos k) in omega arith

-- each address up to the last lies in the same stretch
pub last_same : (a k x : ℕ) → a ≤ x → x ≤ last_of a k → x / 2 ^ k ≡ a / 2 ^ k
last_same a k x h l =
    let p = pow_pos k in
    div-eq_of_lt-le (2 ^ k) (let d = div-mul-le_self a (2 ^ k) in omega arith)
    (let e : (a / 2 ^ k + 1) * 2 ^ k ≡ a / 2 ^ k * 2 ^ k + 1 * 2 ^ k = add-mul (a / 2 ^ k) 1 (2 ^ k) in omega arith)

pub last_inside : (a k n : ℕ) → k ≤ n → a < 2 ^ n → last_of a k < 2 ^ n
last_inside a k n h l =
    let e : 2 ^ n ≡ 2 ^ (n - k) * 2 ^ k = ap (λ (m : ℕ). 2 ^ m) (omega arith) ∙ pow-add 2 (n - k) k in
    let q : a / 2 ^ k < 2 ^ (n - k) = (div-lt_iff_lt-mul (pow_pos k)).1 (subst (λ (m : ℕ). a < m) e l) in
    let m : (a / 2 ^ k + 1) * 2 ^ k ≤ 2 ^ (n - k) * 2 ^ k = mul-le-mul_right (2 ^ k) (omega arith) in
    let d : (a / 2 ^ k + 1) * 2 ^ k ≡ a / 2 ^ k * 2 ^ k + 1 * 2 ^ k = add-mul (a / 2 ^ k) 1 (2 ^ k) in
    let p = pow_pos k in
    omega arith

pub last_small : (a n : ℕ) → a < 2 ^ 52 → 0 < n → n ≤ 2 ^ 52 → a / n * n + (n - 1) < 2 ^ 53
last_small a n h p l = let d = div-mul-le_self a n in omega arith

pub last_eq : {n : ℕ} (a k : ℕ) → n ≡ 2 ^ k → a / n * n + (n - 1) ≡ last_of a k
last_eq a k e = ap (λ (m : ℕ). a / m * m + (m - 1)) e

pub below_52 : (a n : ℕ) → n ≤ 52 → a < 2 ^ n → a < 2 ^ 52
below_52 a n h l = let p : 2 ^ n ≤ 2 ^ 52 = pow_mono h in omega arith

-- ---- what two addresses of a stretch of 2^k share

module _ (a x k : ℕ) (e : x / 2 ^ k ≡ a / 2 ^ k) where
  -- a larger stretch
  pub larger : (n : ℕ) → k ≤ n → x / 2 ^ n ≡ a / 2 ^ n
  larger n h =
      let q : n ≡ k + (n - k) = omega arith in
      let g : (y : ℕ) → y / 2 ^ n ≡ y / 2 ^ k / 2 ^ (n - k) = λ y. ap (λ (m : ℕ). y / 2 ^ m) q ∙ sym (shr-shr y k (n - k)) in
      g x ∙ ap (λ (m : ℕ). m / 2 ^ (n - k)) e ∙ sym (g a)

  -- the place of a larger stretch in one that is larger still
  pub placed : (i n : ℕ) → k ≤ i → i ≤ n → x % 2 ^ n / 2 ^ i ≡ a % 2 ^ n / 2 ^ i
  placed i n h l =
      let q : n ≡ n - i + i = omega arith in
      let g : (y : ℕ) → y % 2 ^ n / 2 ^ i ≡ y / 2 ^ i % 2 ^ (n - i) = λ y. ap (λ (m : ℕ). y % 2 ^ m / 2 ^ i) q ∙ field y (n - i) i in
      g x ∙ ap (λ (m : ℕ). m % 2 ^ (n - i)) (larger i h) ∙ sym (g a)
