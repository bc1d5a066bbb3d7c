-- Crate resolve. The arena's own tests, 4 and 8: what is known where they are not met.
use mathlib.Core.Path.{◌≡◌, refl}
use mathlib.Core.Bool.{Bool, true, false, not, ◌||◌}
use Prim.Native.Nat.{ℕ, ◌+◌, ◌*◌, ◌%◌, ◌≤◌, ◌^◌}
use native.Mathlib.Omega.{arith}
use borrow.Author.Tests.{eqb-true, le-ltb, ltb-false}
use lib.Dec.{eqb, ltb}
use Rattle.resolve.specs.Refusals.{arena_bad, outside}

-- ---- 4

-- an arena in order: its base is aligned, and its end is a physical address
pub arena_fine : (b n : ℕ) → arena_bad b n ≡ false → (b % 4096 ≡ 0) × (b + 8 * n ≤ 2 ^ 52)
unfolding arena_bad
arena_fine b n e = go (eqb (b % 4096) 0) refl e
  where
    go : (t : Bool) → eqb (b % 4096) 0 ≡ t → (not t || ltb (2 ^ 52) (b + 8 * n)) ≡ false → (b % 4096 ≡ 0) × (b + 8 * n ≤ 2 ^ 52)
    go true h f = (eqb-true (b % 4096) 0 h, ltb-false (2 ^ 52) (b + 8 * n) f)
    go false h f = let z : ◌≡◌ {A = ℕ} 0 1 = cc in absurd (omega arith)

-- ---- 8

-- a table inside: neither end is past the arena's
pub inside : (b k a n : ℕ) → outside b k a n ≡ false → (b ≤ a) × (a + 8 * n ≤ b + 8 * k)
unfolding outside
inside b k a n e = go (ltb a b) refl e
  where
    go : (t : Bool) → ltb a b ≡ t → (t || ltb (b + 8 * k) (a + 8 * n)) ≡ false → (b ≤ a) × (a + 8 * n ≤ b + 8 * k)
    go true h f = let z : ◌≡◌ {A = ℕ} 0 1 = cc in absurd (omega arith)
    go false h f = (ltb-false a b h, ltb-false (b + 8 * k) (a + 8 * n) f)

pub not_outside : (b k a n : ℕ) → b ≤ a → a + 8 * n ≤ b + 8 * k → outside b k a n ≡ false
unfolding outside
not_outside b k a n h g = rw (le-ltb a b h, le-ltb (b + 8 * k) (a + 8 * n) g)
