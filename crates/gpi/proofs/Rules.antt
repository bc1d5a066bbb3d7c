-- Rules of `gpi`: the table of nibbles, by one computed test over its sixteen entries: an entry is the GPI whose number is its place, or
-- the place is one of the five reserved. So each GPI is found at its number and at no other. And the same of sizes.
use mathlib.Core.Path.{◌≡◌, refl, sym, ◌∙◌, subst}
use mathlib.Core.Bool.{Bool, true, false, ◌||◌}
use mathlib.Core.List.{List, [], ◌∷◌}
use Prim.Native.Nat.{ℕ, ◌+◌, ◌*◌, ◌<◌, ◌≤◌}
use native.Mathlib.Decide.{dec_lt}
use native.Mathlib.Omega.{arith}
use borrow.Author.Tests.{eqb-true}
use lib.Dec.{eqb, lit<}
use lib.ListN.{get_or, get_or-eq_default}
use Rattle.std.specs.Prelude.{None, Option, Some}
use Rattle.gpi.specs.Gpi.{num, gpi_at, nibbles, is_known, known_at}
use Rattle.gpi.specs.Size.{size_num, size_at, bytes_of, smaller_of}
use Rattle.gpi.specs.declared.Size.{Size}
use Rattle.gpi.specs.declared.Size.TheVariants.{MB2, MB32, MB512}
use Rattle.gpi.specs.declared.Gpi.{Gpi}
use Rattle.gpi.specs.declared.Gpi.TheVariants.{NoAccess, SystemAgent, NonSecureProtected, NoAccess6, NoAccess7, Secure, NonSecure}
use Rattle.gpi.specs.declared.Gpi.TheVariants.{Root, Realm, NonSecureOnly, Any}
use Rattle.gpi.proofs.Table.{apart, at, agree, agreed}

-- ---- the table of nibbles

-- an entry is the GPI of its own place, or its place is one of the five
abbrev pub placed : ℕ → Option Gpi → Bool
placed k (Some g) = eqb k (num g)
placed k None = eqb k 1 || (eqb k 2 || (eqb k 3 || (eqb k 12 || eqb k 14)))

pub table : (k : ℕ) → k < 16 → placed k (gpi_at k) ≡ true
table k h = at (λ j. placed j (gpi_at j)) 16 refl k h

pub past : (n : ℕ) → 16 ≤ n → gpi_at n ≡ None
past n h = get_or-eq_default nibbles None h

-- the code's table of truth values says of each nibble whether it is known
abbrev pub valid : List Bool
valid = true ∷ false ∷ false ∷ false ∷ true ∷ true ∷ true ∷ true ∷ true ∷ true ∷ true ∷ true ∷ false ∷ true ∷ false ∷ true ∷ []

pub valid_at : (k : ℕ) → k < 16 → get_or valid k false ≡ known_at k
valid_at k h = agreed (get_or valid k false) (known_at k) (at (λ j. agree (get_or valid j false) (known_at j)) 16 refl k h)

-- ---- a GPI and its number

-- its number finds it
pub gpi-num : (g : Gpi) → gpi_at (num g) ≡ Some g
gpi-num g =
    elim g as (λ k. gpi_at (num k) ≡ Some k) [
      | NoAccess ↦ refl
      | SystemAgent ↦ refl
      | NonSecureProtected ↦ refl
      | NoAccess6 ↦ refl
      | NoAccess7 ↦ refl
      | Secure ↦ refl
      | NonSecure ↦ refl
      | Root ↦ refl
      | Realm ↦ refl
      | NonSecureOnly ↦ refl
      | Any ↦ refl
    ]

-- and no other number does
pub num-at : (n : ℕ) (g : Gpi) → gpi_at n ≡ Some g → n ≡ num g
num-at n g e = go (dec_lt n 16)
  where
    go : Dec (n < 16) → n ≡ num g
    go (yes l) = eqb-true n (num g) (subst (λ (x : Option Gpi). placed n x ≡ true) e (table n l))
    go (no l) =
        let p : ◌≡◌ {A = Option Gpi} None (Some g) = sym (past n (omega arith)) ∙ e in apart (cc)

pub known_lt : (n : ℕ) → known_at n ≡ true → n < 16
known_lt n e = go (dec_lt n 16)
  where
    go : Dec (n < 16) → n < 16
    go (yes l) = l
    go (no l) =
        let p : false ≡ true = rw (past n (omega arith)) at e in apart (cc)

pub num-lt : (g : Gpi) → num g < 16
num-lt g = known_lt (num g) (rw (gpi-num g))

-- a known number is some GPI's, and any other is reserved
pub named : (P : Type 0) (n : ℕ) → known_at n ≡ true → ((g : Gpi) → n ≡ num g → P) → P
named P n k f = go (gpi_at n) refl k
  where
    go : (x : Option Gpi) → gpi_at n ≡ x → is_known x ≡ true → P
    go (Some g) e k = f g (num-at n g e)
    go None e k = apart (cc)

pub unnamed : (n : ℕ) → known_at n ≡ false → gpi_at n ≡ None
unnamed n k = go (gpi_at n) k
  where
    go : (x : Option Gpi) → is_known x ≡ false → x ≡ None
    go (Some g) k = apart (cc)
    go None k = refl

-- ---- sizes

pub size_num_lem : (s : Size) → size_at (size_num s) ≡ Some s
size_num_lem s = elim s as (λ k. size_at (size_num k) ≡ Some k) [ MB2 ↦ refl | MB32 ↦ refl | MB512 ↦ refl ]

pub size_lt : (s : Size) → size_num s < 4
size_lt s = elim s as (λ k. size_num k < 4) [ MB2 ↦ lit< tt | MB32 ↦ lit< tt | MB512 ↦ lit< tt ]

pub size_pos : (s : Size) → 0 < size_num s
size_pos s = elim s as (λ k. 0 < size_num k) [ MB2 ↦ lit< tt | MB32 ↦ lit< tt | MB512 ↦ lit< tt ]

-- the next smaller size is one code below, and a sixteenth
pub smaller_num : (s r : Size) → smaller_of s ≡ Some r → (size_num r + 1 ≡ size_num s) × (16 * bytes_of r ≡ bytes_of s)
smaller_num MB2 r e = apart (cc)
smaller_num MB32 r e = let p : MB2 ≡ r = cc in subst (λ (x : Size). (size_num x + 1 ≡ 2) × (16 * bytes_of x ≡ bytes_of MB32)) p (refl, refl)
smaller_num MB512 r e = let p : MB32 ≡ r = cc in subst (λ (x : Size). (size_num x + 1 ≡ 3) × (16 * bytes_of x ≡ bytes_of MB512)) p (refl, refl)
