-- Laws of numbers in decimal: digit by digit, how long they are, and that they read back. Crate `dump_lines`.
use mathlib.Core.Path.{◌≡◌, refl, sym, ap, ap₂, ◌∙◌}
use mathlib.Core.Bool.{Bool, true, false}
use mathlib.Core.List.{List, [], ◌∷◌, ◌++◌}
use Prim.Native.Nat.{ℕ, zero, suc, ◌+◌, ◌-◌, ◌*◌, ◌/◌, ◌%◌, ◌^◌, ◌≤◌, ◌<◌}
use native.Mathlib.Decide.{dec_lt}
use native.Mathlib.Nat.{not-suc-le-zero, one-le-pow, pow-suc}
use native.Mathlib.Omega.{arith}
use borrow.Author.Tests.{lt-ltb, le-ltb}
use lib.ListN.{length, length-append}
use Rattle.std.proofs.Common.{Option, Some, None, add-one}
use Rattle.std.specs.Option.{IfSome, IfNone, unwrap_or}
use Rattle.dump_lines.specs.Digits.{digit_of, digits, dec, lowest}

-- the last digit of a number by a truth value: it is the only one, or others stand before it
abbrev by : ℕ → ℕ → Bool → List ℕ
by n x b = elim b [ true ↦ (48 + x) ∷ [] | false ↦ digits n (x / 10) ++ ((48 + x % 10) ∷ []) ]

one : (n x : ℕ) → x < 10 → digits (suc n) x ≡ (48 + x) ∷ []
unfolding digits
one n x h = ap (by n x) (lt-ltb x 10 h)

more : (n x : ℕ) → 10 ≤ x → digits (suc n) x ≡ digits n (x / 10) ++ ((48 + x % 10) ∷ [])
unfolding digits
more n x h = ap (by n x) (le-ltb x 10 h)

-- more steps change nothing
steps : (n m x : ℕ) → x < n → x < m → digits n x ≡ digits m x
steps zero m x h k = absurd (not-suc-le-zero h)
steps (suc n) zero x h k = absurd (not-suc-le-zero k)
steps (suc n) (suc m) x h k = go (dec_lt x 10) (λ l. steps n m (x / 10) (omega arith) (omega arith))
  where
    go : Dec (x < 10) → (10 ≤ x → digits n (x / 10) ≡ digits m (x / 10)) → digits (suc n) x ≡ digits (suc m) x
    go (yes l) r = one n x l ∙ sym (one m x l)
    go (no l) r =
        let g : 10 ≤ x = omega arith in
        more n x g ∙ ap (λ (d : List ℕ). d ++ ((48 + x % 10) ∷ [])) (r g) ∙ sym (more m x g)

-- ---- the two cases

pub dec-one : (x : ℕ) → x < 10 → dec x ≡ (48 + x) ∷ []
dec-one x h = one x x h

pub dec-more : (x : ℕ) → 10 ≤ x → dec x ≡ dec (x / 10) ++ ((48 + x % 10) ∷ [])
dec-more x h =
    more x x h ∙ ap (λ (d : List ℕ). d ++ ((48 + x % 10) ∷ [])) (steps x (suc (x / 10)) (x / 10) (omega arith) (omega arith))

-- ---- how long

pub length_more : (x : ℕ) → 10 ≤ x → length (dec x) ≡ length (dec (x / 10)) + 1
length_more x h = ap length (dec-more x h) ∙ length-append (dec (x / 10)) ((48 + x % 10) ∷ [])

pub length_some : (x : ℕ) → 0 < length (dec x)
length_some x = go (dec_lt x 10)
  where
    go : Dec (x < 10) → 0 < length (dec x)
    go (yes l) = let e = ap length (dec-one x l) in omega arith
    go (no l) = let e = length_more x (omega arith) in omega arith

-- no longer than it must be
pub length-dec : (n x : ℕ) → x < 10 ^ suc n → length (dec x) ≤ suc n
length-dec zero x h = let e = ap length (dec-one x h) in omega arith
length-dec (suc n) x h = go (dec_lt x 10) (length-dec n (x / 10))
  where
    go : Dec (x < 10) → (x / 10 < 10 ^ suc n → length (dec (x / 10)) ≤ suc n) → length (dec x) ≤ suc (suc n)
    go (yes l) r = let e = ap length (dec-one x l) in omega arith
    go (no l) r = let p = pow-suc 10 (suc n) in let k = r (omega arith) in let e = length_more x (omega arith) in omega arith

-- and no shorter
length_from : (k x : ℕ) → 10 ^ k ≤ x → k < length (dec x)
length_from zero x h = length_some x
length_from (suc k) x h =
    let p = pow-suc 10 k in
    let one : 0 < 10 ^ k = one-le-pow k 10 (omega arith) in
    let r = length_from k (x / 10) (omega arith) in
    let e = length_more x (omega arith) in
    omega arith

-- by the logarithm, which 0 has none of
pub length_log : (o : Option ℕ) (x : ℕ) → IfNone o (x ≡ 0) → IfSome o (λ k. 10 ^ k ≤ x) → IfSome o (λ k. x < 10 * 10 ^ k)
    → 1 + unwrap_or o 0 ≡ length (dec x)
length_log None x n a b = sym (ap (λ (k : ℕ). length (dec k)) n ∙ ap length (dec-one 0 (omega arith)))
length_log (Some k) x n a b =
    let p = pow-suc 10 k in
    let f = length_from k x a in
    let h : x < 10 ^ suc k = omega arith in
    let l = length-dec k x h in
    omega arith

-- ---- read back

-- the number that digits behind a number make
abbrev pub value : ℕ → List ℕ → ℕ
value a [] = a
value a (d ∷ ds) = value (a * 10 + (d - 48)) ds

value_last : (ds : List ℕ) (a d : ℕ) → value a (ds ++ (d ∷ [])) ≡ value a ds * 10 + (d - 48)
value_last [] a d = refl
value_last (e ∷ ds) a d = value_last ds (a * 10 + (e - 48)) d

value_digits : (n x : ℕ) → x < n → value 0 (digits n x) ≡ x
value_digits zero x h = absurd (not-suc-le-zero h)
value_digits (suc n) x h = go (dec_lt x 10) (λ l. value_digits n (x / 10) (omega arith))
  where
    go : Dec (x < 10) → (10 ≤ x → value 0 (digits n (x / 10)) ≡ x / 10) → value 0 (digits (suc n) x) ≡ x
    go (yes l) r = ap (value 0) (one n x l) ∙ omega arith
    go (no l) r =
        let g : 10 ≤ x = omega arith in
        ap (value 0) (more n x g) ∙ value_last (digits n (x / 10)) 0 (48 + x % 10) ∙ (let e = r g in omega arith)

pub dec-value : (x : ℕ) → value 0 (dec x) ≡ x
dec-value x = value_digits (suc x) x (omega arith)

-- ---- by the lowest digits

pub digit_low : (d : ℕ) → d < 10 → 48 + d ≡ digit_of d
unfolding digit_of
digit_low d h = rw (lt-ltb d 10 h)

lowest_from : (n x : ℕ) → x < n → dec x ≡ lowest 10 (length (dec x)) x
unfolding lowest
lowest_from zero x h = absurd (not-suc-le-zero h)
lowest_from (suc n) x h = go (dec_lt x 10) (λ l. lowest_from n (x / 10) (omega arith))
  where
    last : 48 + x % 10 ≡ digit_of (x % 10)
    last = digit_low (x % 10) (omega arith)

    go : Dec (x < 10) → (10 ≤ x → dec (x / 10) ≡ lowest 10 (length (dec (x / 10))) (x / 10)) → dec x ≡ lowest 10 (length (dec x)) x
    go (yes l) r =
        let e : 48 + x ≡ 48 + x % 10 = omega arith in
        dec-one x l ∙ ap (λ (d : ℕ). d ∷ []) (e ∙ last) ∙ ap (λ (k : ℕ). lowest 10 k x) (sym (ap length (dec-one x l)))
    go (no l) r =
        let g : 10 ≤ x = omega arith in
        let m : ℕ = length (dec (x / 10)) in
        dec-more x g ∙ ap₂ (λ (a : List ℕ) (d : ℕ). a ++ (d ∷ [])) (r g) last
        ∙ ap (λ (k : ℕ). lowest 10 k x) (sym (length_more x g ∙ add-one m))

pub dec_lowest : (x : ℕ) → dec x ≡ lowest 10 (length (dec x)) x
dec_lowest x = lowest_from (suc x) x (omega arith)
