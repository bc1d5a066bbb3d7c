-- `every`, `build`, `map` by index. Of the crate `theory`.
use mathlib.Core.Path.{◌≡◌, refl, sym, ap, ◌∙◌}
use mathlib.Core.Bool.{Bool, true, false, ◌&&◌, false≢true}
use mathlib.Core.List.{List, map}
use Prim.Native.Nat.{ℕ, zero, suc, ◌+◌, ◌≤◌, ◌<◌}
use native.Mathlib.Omega.{arith}
use native.Mathlib.Decide.{ℕ_discrete}
use lib.ListN.{length, get_or, length-map, get_or-map}
use Rattle.theory.specs.Normal.{every, build, at}

pub and_left : (a b : Bool) → (a && b) ≡ true → a ≡ true
and_left true b e = refl
and_left false b e = e

pub and_right : (a b : Bool) → (a && b) ≡ true → b ≡ true
and_right true b e = e
and_right false b e = absurd (false≢true e)

pub every-at : (p : ℕ → Bool) (a n : ℕ) → every p a n ≡ true → (j : ℕ) → a ≤ j → j < a + n → p j ≡ true
unfolding every
every-at p a zero e j lo hi = absurd (omega arith)
every-at p a (suc n) e j lo hi = go (ℕ_discrete a j) (every-at p (suc a) n (and_right (p a) (every p (suc a) n) e) j)
  where
    go : Dec (a ≡ j) → (suc a ≤ j → j < suc a + n → p j ≡ true) → p j ≡ true
    go (yes q) ih = rw q at (and_left (p a) (every p (suc a) n) e)
    go (no q) ih = ih (omega arith) (omega arith)

pub every_of : (p : ℕ → Bool) (a n : ℕ) → ((j : ℕ) → a ≤ j → j < a + n → p j ≡ true) → every p a n ≡ true
unfolding every
every_of p a zero h = refl
every_of p a (suc n) h =
    rw (h a (omega arith) (omega arith)) (every_of p (suc a) n (λ j lo hi. h j (omega arith) (omega arith)))

pub every-ext : (p q : ℕ → Bool) → ((j : ℕ) → p j ≡ q j) → (a n : ℕ) → every p a n ≡ every q a n
unfolding every
every-ext p q h a zero = refl
every-ext p q h a (suc n) = cc (h a, every-ext p q h (suc a) n)

pub length-build : (h : ℕ → ℕ) (a n : ℕ) → length (build h a n) ≡ n
unfolding build
length-build h a zero = refl
length-build h a (suc n) = ap suc (length-build h (suc a) n)

pub build-ext : (h k : ℕ → ℕ) → ((j : ℕ) → h j ≡ k j) → (a n : ℕ) → build h a n ≡ build k a n
unfolding build
build-ext h k e a zero = refl
build-ext h k e a (suc n) = cc (e a, build-ext h k e (suc a) n)

pub at-build : (h : ℕ → ℕ) (a n i : ℕ) → i < n → at (build h a n) i ≡ h (a + i)
unfolding build
at-build h a zero i b = absurd (omega arith)
at-build h a (suc n) zero b = ap h (omega arith)
at-build h a (suc n) (suc i) b = at-build h (suc a) n i (omega arith) ∙ ap h (omega arith)

-- tables whose images are equal agree under the map at each index
pub map_at : (f : ℕ → ℕ) (s t : List ℕ) → map f s ≡ map f t → (i : ℕ) → f (at s i) ≡ f (at t i)
map_at f s t e i = sym (get_or-map f s i 0) ∙ ap (λ l. get_or l i (f 0)) e ∙ get_or-map f t i 0

pub map-length : (f : ℕ → ℕ) (s t : List ℕ) → map f s ≡ map f t → length s ≡ length t
map-length f s t e = sym (length-map s f) ∙ ap length e ∙ length-map t f
