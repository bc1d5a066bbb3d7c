-- Laws of big-endian numbers. Crate `dump_image`.
use mathlib.Core.Path.{◌≡◌, refl, sym, ap, ap₂, ◌∙◌}
use mathlib.Core.List.{List, ◌++◌}
use Prim.Native.Nat.{ℕ, zero, suc, ◌+◌, ◌*◌, ◌^◌, ◌≤◌, ◌<◌}
use native.Mathlib.Nat.{pow-suc, pow-le-pow_right}
use native.Mathlib.Numerals.{add-one}
use native.Mathlib.Omega.{arith}
use lib.Dec.{lit<}
use lib.ListN.{length, get_or, drop, set, length-append}
use lib.Seq.{drop-cons, set_at, append_snoc}
use Rattle.dump_image.specs.Image.{big_endian, words_from}

-- one more byte has room
pub room : {v k b : ℕ} → v < 256 ^ k → k < 8 → b < 256 → v * 256 + b < 2 ^ 64
room {v} {k} {b} h i l =
    let p : 256 ^ k ≤ 256 ^ 7 = pow-le-pow_right (lit< tt) {j = 7} (omega arith) in
    let q : 256 ^ 7 ≡ 72057594037927936 = refl in
    omega arith

pub grown : {v b : ℕ} (k : ℕ) → v < 256 ^ k → b < 256 → v * 256 + b < 256 ^ (k + 1)
grown {v} {b} k h l = rw (add-one, pow-suc) (omega arith)

pub number_more : {v b : ℕ} (s : List ℕ) (i k : ℕ) → v ≡ big_endian s i k → b ≡ get_or s (i + k) 0 → v * 256 + b ≡ big_endian s i (k + 1)
unfolding big_endian
number_more s i k e f = rw (add-one) (ap₂ (λ (x y : ℕ). x * 256 + y) e f)

pub number-none : (s : List ℕ) (i : ℕ) → 0 ≡ big_endian s i 0
unfolding big_endian
number-none s i = refl

-- ---- words copied

pub length-words : (s : List ℕ) (i n : ℕ) → length (words_from s i n) ≡ n
unfolding words_from
length-words s i zero = refl
length-words s i (suc n) = length-append (words_from s i n) _ ∙ ap (λ (k : ℕ). k + 1) (length-words s i n) ∙ add-one n

pub words_none : (s : List ℕ) (i : ℕ) (o : List ℕ) → o ≡ words_from s i 0 ++ drop 0 o
unfolding words_from
words_none s i o = refl

pub words_more : {v : ℕ} (s : List ℕ) (i k : ℕ) (o₀ o : List ℕ) → k < length o₀ → o ≡ words_from s i k ++ drop k o₀
    → v ≡ big_endian s (i + 8 * k) 8 → set o k v ≡ words_from s i (k + 1) ++ drop (k + 1) o₀
unfolding words_from
words_more {v} s i k o₀ o h e f =
    ap (λ (l : List ℕ). set l k v) (e ∙ ap (λ (r : List ℕ). words_from s i k ++ r) (drop-cons o₀ k 0 h))
    ∙ set_at (words_from s i k) (get_or o₀ k 0) (drop (suc k) o₀) v k (length-words s i k)
    ∙ sym (append_snoc (words_from s i k) v (drop (suc k) o₀))
    ∙ rw (add-one, f)
