-- Laws of `granules`: a word is its list of nibbles, and a list of nibbles its word.
use mathlib.Core.Path.{◌≡◌, refl, sym, ap, ap₂, ◌∙◌, subst}
use mathlib.Core.List.{List, [], ◌∷◌}
use mathlib.Core.Bool.{Bool, true, false, and-false}
use Prim.Native.Nat.{ℕ, zero, suc, ◌+◌, ◌-◌, ◌*◌, ◌/◌, ◌%◌, ◌^◌, ◌<◌}
use native.Mathlib.Nat.{pow-suc, pow-succ', div-one, div-div-eq-div-mul, mul_assoc, mul-zero, mul-add, div-lt_iff_lt-mul}
use native.Mathlib.Nat.{le_of_suc-le-suc, not-suc-le-zero}
use native.Mathlib.Omega.{arith}
use lib.Arith.{lt-one}
use borrow.Author.Tests.{eqb-true, eq-eqb}
use lib.Dec.{lit<, eqb}
use lib.ListN.{length, get_or, set, replicate, length-replicate}
use Rattle.gpi.proofs.Table.{and_both}
use Rattle.granules.specs.Nibs.{nib, nibs, word, all}

-- every one is a nibble
abbrev pub Small : List ℕ → Type 0
Small [] = Unit {0}
Small (x ∷ xs) = (x < 16) × Small xs

-- ---- the list of a word

pub length-nibs : (n w : ℕ) → length (nibs n w) ≡ n
unfolding nibs
length-nibs zero w = refl
length-nibs (suc n) w = ap suc (length-nibs n (w / 16))

pub nibs-step : (n w : ℕ) → 0 < n → nibs n w ≡ w % 16 ∷ nibs (n - 1) (w / 16)
unfolding nibs
nibs-step zero w h = absurd (not-suc-le-zero h)
nibs-step (suc n) w h = let e : n ≡ suc n - 1 = omega arith in ap (λ (m : ℕ). w % 16 ∷ nibs m (w / 16)) e

pub small_nibs : (n w : ℕ) → Small (nibs n w)
unfolding nibs
small_nibs zero w = tt
small_nibs (suc n) w = (omega arith, small_nibs n (w / 16))

pub nib-suc : (w i : ℕ) → nib w (suc i) ≡ nib (w / 16) i
nib-suc w i = ap (λ (p : ℕ). w / p % 16) (pow-succ' 16 i) ∙ ap (λ (x : ℕ). x % 16) (sym (div-div-eq-div-mul w 16 (16 ^ i)))

pub get_or-nibs : (n w i : ℕ) → i < n → get_or (nibs n w) i 0 ≡ nib w i
unfolding nibs
get_or-nibs zero w i h = absurd (not-suc-le-zero h)
get_or-nibs (suc n) w zero h = sym (ap (λ (x : ℕ). x % 16) (div-one w))
get_or-nibs (suc n) w (suc i) h = get_or-nibs n (w / 16) i (le_of_suc-le-suc h) ∙ sym (nib-suc w i)

-- ---- there and back

pub word-nibs : (n w : ℕ) → w < 16 ^ n → word (nibs n w) ≡ w
unfolding nibs word
word-nibs zero w h = sym (lt-one h)
word-nibs (suc n) w h =
    let q : w / 16 < 16 ^ n = (div-lt_iff_lt-mul (lit< tt)).1 (subst (λ (p : ℕ). w < p) (pow-suc 16 n) h) in
    ap (λ (x : ℕ). w % 16 + x * 16) (word-nibs n (w / 16) q) ∙ omega arith

pub nibs-word : (l : List ℕ) → Small l → nibs (length l) (word l) ≡ l
unfolding nibs word
nibs-word [] s = refl
nibs-word (x ∷ l) s =
    ap₂ (λ (a : ℕ) (b : List ℕ). a ∷ b) (let h = s.0 in omega arith)
    (ap (nibs (length l)) (let h = s.0 in omega arith) ∙ nibs-word l s.1)

pub word_lt : (l : List ℕ) → Small l → word l < 16 ^ length l
unfolding word
word_lt [] s = lit< tt
word_lt (x ∷ l) s =
    let h = s.0 in
    let k = word_lt l s.1 in
    subst (λ (p : ℕ). x + word l * 16 < p) (sym (pow-suc 16 (length l))) (omega arith)

-- ---- a store

pub small_set : (l : List ℕ) (i x : ℕ) → x < 16 → Small l → Small (set l i x)
small_set [] i x h s = tt
small_set (y ∷ l) zero x h s = (h, s.1)
small_set (y ∷ l) (suc i) x h s = (s.0, small_set l i x h s.1)

-- the word after a store: the old nibble's share goes, and the new one's comes
pub word_set : (l : List ℕ) (i x : ℕ) → i < length l → word (set l i x) + get_or l i 0 * 16 ^ i ≡ word l + x * 16 ^ i
unfolding word
word_set [] i x h = absurd (not-suc-le-zero h)
word_set (y ∷ l) zero x h = omega arith
word_set (y ∷ l) (suc i) x h =
    let ih = word_set l i x (le_of_suc-le-suc h) in
    let p : (k : ℕ) → k * 16 ^ suc i ≡ (k * 16 ^ i) * 16 = λ k. ap (λ (q : ℕ). k * q) (pow-suc 16 i) ∙ sym (mul_assoc k (16 ^ i) 16) in
    omega (arith, p x, p (get_or l i 0))

-- ---- a test that passes at each

pub all-at : (f : ℕ → Bool) (l : List ℕ) (i : ℕ) → all f l ≡ true → i < length l → f (get_or l i 0) ≡ true
all-at f [] i t h = absurd (not-suc-le-zero h)
all-at f (x ∷ l) zero t h = (and_both (f x) (all f l) t).0
all-at f (x ∷ l) (suc i) t h = all-at f l i (and_both (f x) (all f l) t).1 (le_of_suc-le-suc h)

pub all_set : (f : ℕ → Bool) (l : List ℕ) (i x : ℕ) → f x ≡ true → all f l ≡ true → all f (set l i x) ≡ true
all_set f [] i x h t = t
all_set f (y ∷ l) zero x h t = rw h (and_both (f y) (all f l) t).1
all_set f (y ∷ l) (suc i) x h t =
    let b = and_both (f y) (all f l) t in
    rw b.0 (all_set f l i x h b.1)

-- it passes at each, or fails at one
pub all_each : (f : ℕ → Bool) (l : List ℕ) → ((i : ℕ) → i < length l → f (get_or l i 0) ≡ true) → all f l ≡ true
all_each f [] h = refl
all_each f (x ∷ l) h = rw (h 0 (omega arith), all_each f l (λ i k. h (suc i) (omega arith)))

pub all_fails : (f : ℕ → Bool) (l : List ℕ) (i : ℕ) → i < length l → f (get_or l i 0) ≡ false → all f l ≡ false
all_fails f [] i h e = absurd (not-suc-le-zero h)
all_fails f (x ∷ l) zero h e = rw e
all_fails f (x ∷ l) (suc i) h e = rw (all_fails f l i (le_of_suc-le-suc h) e, and-false)

-- ---- one nibble throughout

pub word-replicate : (n x : ℕ) → word (replicate n x) ≡ x * word (replicate n 1)
unfolding word
word-replicate zero x = sym (mul-zero x)
word-replicate (suc n) x =
    let ih = word-replicate n x in
    let d : x * (1 + word (replicate n 1) * 16) ≡ x * 1 + x * (word (replicate n 1) * 16) = mul-add x 1 (word (replicate n 1) * 16) in
    omega (arith, mul_assoc x (word (replicate n 1)) 16)

pub small_replicate : (n x : ℕ) → x < 16 → Small (replicate n x)
small_replicate zero x h = tt
small_replicate (suc n) x h = (h, small_replicate n x h)

pub all_replicate : (f : ℕ → Bool) (n x : ℕ) → f x ≡ true → all f (replicate n x) ≡ true
all_replicate f zero x t = refl
all_replicate f (suc n) x t = rw (t, all_replicate f n x t)

alike-replicate : (x : ℕ) (l : List ℕ) → all (eqb x) l ≡ true → l ≡ replicate (length l) x
alike-replicate x [] t = refl
alike-replicate x (y ∷ l) t =
    let b = and_both (eqb x y) (all (eqb x) l) t in
    ap₂ (λ (a : ℕ) (b : List ℕ). a ∷ b) (sym (eqb-true x y b.0)) (alike-replicate x l b.1)

same : (a b : Bool) → (a ≡ true → b ≡ true) → (b ≡ true → a ≡ true) → a ≡ b
same true b f g = sym (f refl)
same false true f g = g refl
same false false f g = refl

pub nibs-replicate : (n x : ℕ) → x < 16 → nibs n (word (replicate n x)) ≡ replicate n x
nibs-replicate n x h =
    ap (λ (k : ℕ). nibs k (word (replicate n x))) (sym (length-replicate n x)) ∙ nibs-word (replicate n x) (small_replicate n x h)

-- all n nibbles of w are x just where w is x repeated
alike : (n w x : ℕ) → w < 16 ^ n → x < 16 → all (eqb x) (nibs n w) ≡ eqb w (x * word (replicate n 1))
alike n w x hw hx = same (all (eqb x) (nibs n w)) (eqb w (x * word (replicate n 1))) there back
  where
    there : all (eqb x) (nibs n w) ≡ true → eqb w (x * word (replicate n 1)) ≡ true
    there t =
        let e : nibs n w ≡ replicate n x = alike-replicate x (nibs n w) t ∙ ap (λ (k : ℕ). replicate k x) (length-nibs n w) in
        eq-eqb w (x * word (replicate n 1)) (sym (word-nibs n w hw) ∙ ap word e ∙ word-replicate n x)

    back : eqb w (x * word (replicate n 1)) ≡ true → all (eqb x) (nibs n w) ≡ true
    back t =
        let q : w ≡ word (replicate n x) = eqb-true w (x * word (replicate n 1)) t ∙ sym (word-replicate n x) in
        ap (all (eqb x)) (ap (nibs n) q ∙ nibs-replicate n x hx) ∙ all_replicate (eqb x) n x (eq-eqb x x refl)

ones16 : word (replicate 16 1) ≡ 0x1111111111111111
unfolding word
ones16 = refl

pub repeat16 : (x : ℕ) → word (replicate 16 x) ≡ x * 0x1111111111111111
repeat16 x = word-replicate 16 x ∙ ap (λ (k : ℕ). x * k) ones16

pub alike16 : (w x : ℕ) → w < 2 ^ 64 → x < 16 → all (eqb x) (nibs 16 w) ≡ eqb w (x * 0x1111111111111111)
alike16 w x hw hx = alike 16 w x hw hx ∙ ap (λ (k : ℕ). eqb w (x * k)) ones16

-- ---- the test of a word by its lowest nibble

pub walk_miss : (f : ℕ → Bool) (n v : ℕ) → 0 < n → f (v % 16) ≡ false → all f (nibs n v) ≡ false
walk_miss f n v h e = rw (nibs-step n v h, e)
