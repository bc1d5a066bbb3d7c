-- Laws of `pa`: what `aligned_down` and `distance_of` mean, the largest multiple, and the number that leads from one address to the other.
use mathlib.Core.Path.{◌≡◌, refl, ap, ◌∙◌}
use Prim.Native.Nat.{ℕ, ◌*◌, ◌^◌, ◌≤◌, ◌<◌}
use native.Mathlib.Nat.{div-mul-le_self, le-div_iff_mul-le, mul-le-mul_right, mul-zero}
use native.Mathlib.Decide.{dec_lt}
use native.Mathlib.Omega.{arith}
use borrow.Author.Tests.{lt-ltb}
use lib.IntN.{pos, negsuc, ◌+ℤ◌, -ℤ-+ℤ_cancel}
use Rattle.pa.specs.Pa.{aligned_down, distance_of, number, distance}

-- it is not above the address, and no multiple between the two is larger
pub align_below : (a n : ℕ) → aligned_down a n ≤ a
align_below a n = div-mul-le_self a n

pub align_largest : (a n k : ℕ) → k * n ≤ a → k * n ≤ aligned_down a n
align_largest a n k h = go (dec_lt 0 n)
  where
    go : Dec (0 < n) → k * n ≤ aligned_down a n
    go (yes p) = mul-le-mul_right n ((le-div_iff_mul-le p).1 h)
    go (no p) =
        let z : n ≡ 0 = omega arith in
        let e : k * n ≡ 0 = ap (λ (m : ℕ). k * m) z ∙ mul-zero k in
        omega arith

-- the other address and the distance make this address, on both sides of zero
pub distance-exact : (a b : ℕ) → a < 2 ^ 52 → b < 2 ^ 52 → distance (distance_of a b) +ℤ pos b ≡ pos a
distance-exact a b p q = simp (lt-ltb a (2 ^ 52) p, lt-ltb b (2 ^ 52) q) (-ℤ-+ℤ_cancel (pos a) (pos b))

-- worked: above, below, and one address too large on either side
above : distance (distance_of 5 3) ≡ pos 2
above = refl

under : distance (distance_of 3 5) ≡ negsuc 1
under = refl

taken : number (distance_of 3 5) ≡ 0
taken = refl

refused-first : (number (distance_of (2 ^ 52) 0) ≡ 6) × (distance (distance_of (2 ^ 52) 0) ≡ pos 0)
refused-first = (refl, refl)

refused-second : (number (distance_of 0 (2 ^ 52)) ≡ 6) × (distance (distance_of 0 (2 ^ 52)) ≡ pos 0)
refused-second = (refl, refl)
