-- Crate mend_table. `every` over the words of a table: a stretch and another, one stretch after another, and a test of a list's elements.
use mathlib.Core.Path.{◌≡◌, refl}
use mathlib.Core.Bool.{Bool, true, false, ◌&&◌}
use mathlib.Core.List.{List, [], ◌∷◌}
use Prim.Native.Nat.{ℕ, zero, suc, ◌+◌, ◌<◌}
use native.Mathlib.Nat.{add-suc, suc-add, add-zero, zero-add}
use native.Mathlib.Numerals.{one-add}
use native.Mathlib.Omega.{arith}
use lib.ListN.{length}
use Rattle.std.specs.List.{list_all}
use Rattle.theory.specs.Normal.{at, every}

-- the test p from a and the test q from b
pub every-there : (p q : ℕ → Bool) (a b n : ℕ) → ((j : ℕ) → j < n → p (a + j) ≡ q (b + j)) → every p a n ≡ every q b n
unfolding every
every-there p q a b zero e = refl
every-there p q a b (suc n) e =
    rw (
      rw (add-zero a, add-zero b) at (e 0 (omega arith)),
      every-there p q (suc a) (suc b) n (λ j h. rw (suc-add a j, suc-add b j) (rw (add-suc a j, add-suc b j) at (e (suc j) (omega arith)))),
    ) refl

pub every-add : (p : ℕ → Bool) (a m n : ℕ) → every p a (m + n) ≡ (every p a m && every p (a + m) n)
unfolding every
every-add p a zero n = rw (zero-add n, add-zero a) refl
every-add p a (suc m) n = rw (suc-add m n, every-add p (suc a) m n, suc-add a m, add-suc a m) (go (p a))
  where
    go : (b : Bool) → (b && (every p (suc a) m && every p (suc (a + m)) n)) ≡ ((b && every p (suc a) m) && every p (suc (a + m)) n)
    go true = refl
    go false = refl

pub every-list : (p : ℕ → Bool) (xs : List ℕ) → list_all p xs ≡ every (λ i. p (at xs i)) 0 (length xs)
unfolding every
every-list p [] = refl
every-list p (x ∷ xs) =
    rw (
      every-list p xs,
      every-there (λ i. p (at xs i)) (λ i. p (at (x ∷ xs) i)) 0 1 (length xs) (λ j h. rw (zero-add j, one-add j) refl),
    ) refl
