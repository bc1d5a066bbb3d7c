-- Laws of bytes put into a buffer, and of the digits of numbers. Crate `dump_lines`.
use mathlib.Core.Path.{◌≡◌, refl, sym, ap, ap₂, ◌∙◌}
use mathlib.Core.List.{List, [], ◌∷◌, ◌++◌}
use Prim.Native.Nat.{ℕ, zero, suc, ◌+◌, ◌-◌, ◌/◌, ◌%◌, ◌^◌, ◌≤◌, ◌<◌}
use native.Mathlib.Nat.{add-zero, div-div-eq-div-mul, div-one, pow-succ', pow-zero}
use native.Mathlib.Numerals.{add-one}
use native.Mathlib.Omega.{arith}
use lib.ListN.{length, set, length-append}
use Rattle.std.proofs.Common.{append_assoc}
use lib.Seq.{sets, set_comm, length-sets}
use borrow.Rule.Slice.PartMut.{put_mid}
use Rattle.std.proofs.lemmas.Slice.{put_mid-paste}
use Rattle.std.proofs.lemmas.List.Edits.{paste_all, sets-eq}
use Rattle.dump_lines.specs.Digits.{digit_of, hex, lowest, Put}

-- ---- one after another

pub sets-append : (l : List ℕ) (i : ℕ) (a b : List ℕ) → sets l i (a ++ b) ≡ sets (sets l i a) (i + length a) b
sets-append l i [] b = ap (λ (k : ℕ). sets l k b) (sym (add-zero i))
sets-append l i (x ∷ a) b = sets-append (set l i x) (suc i) a b ∙ ap (λ (k : ℕ). sets (sets (set l i x) (suc i) a) k b) (omega arith)

pub then_put : {o o₁ o₂ a b : List ℕ} {i m n : ℕ} → Put o i a o₁ m → Put o₁ m b o₂ n → Put o i (a ++ b) o₂ n
then_put {o} {o₁} {o₂} {a} {b} {i} {m} {n} p q =
    record {
      bytes = q.bytes ∙ ap₂ (λ (l : List ℕ) (k : ℕ). sets l k b) p.bytes p.place ∙ sym (sets-append o i a b);
      place = let e = p.place in let f = q.place in let g = length-append a b in omega arith;
    }

-- the buffer keeps its length
pub put-length : {o o₁ a : List ℕ} {i m : ℕ} → Put o i a o₁ m → length o₁ ≡ length o
put-length {o} {o₁} {a} {i} p = ap length p.bytes ∙ length-sets o i a

-- a byte behind them may be put first
pub set-behind : (o : List ℕ) (i : ℕ) (a : List ℕ) (j d : ℕ) → i + length a ≤ j → set (sets o i a) j d ≡ sets (set o j d) i a
set-behind o i [] j d h = refl
set-behind o i (x ∷ a) j d h =
    set-behind (set o i x) (suc i) a j d (omega arith)
    ∙ ap (λ (l : List ℕ). sets l (suc i) a) (set_comm o i j x d (λ e. absurd (omega arith)))

-- bytes copied over a part
pub copy_put : {at k : ℕ} {o s ys : List ℕ} → ys ≡ s → k ≡ length s → at + length s ≤ length o → Put o at s (put_mid at k o ys) (at + length s)
copy_put {at} {k} {o} {s} {ys} e q h =
    record {
      bytes = put_mid-paste at k o ys s (length s) e (sym q) refl ∙ paste_all o at s (length s) refl
          ∙ sym (simp append_assoc at (sets-eq s o at h));
      place = refl;
    }

-- ---- digits

pub length-hex : (n x : ℕ) → length (hex n x) ≡ n
unfolding hex
length-hex zero x = refl
length-hex (suc n) x = ap suc (length-hex n x)

-- the first of the lowest digits, in place of the last
lowest_first : (base n x : ℕ) → lowest base (suc n) x ≡ digit_of (x / base ^ n % base) ∷ lowest base n x
unfolding lowest
lowest_first base zero x = ap (λ (k : ℕ). digit_of (k % base) ∷ []) (sym (ap (λ (k : ℕ). x / k) (pow-zero base) ∙ div-one x))
lowest_first base (suc n) x =
    ap (λ (l : List ℕ). l ++ (digit_of (x % base) ∷ [])) (lowest_first base n (x / base))
    ∙ ap (λ (k : ℕ). digit_of (k % base) ∷ lowest base (suc n) x) (div-div-eq-div-mul x base (base ^ n) ∙ ap (λ (k : ℕ). x / k) (sym (pow-succ' base n)))

pub hex_lowest : (n x : ℕ) → hex n x ≡ lowest 16 n x
unfolding hex lowest
hex_lowest zero x = refl
hex_lowest (suc n) x =
    ap (λ (l : List ℕ). digit_of (x / 16 ^ n % 16) ∷ l) (hex_lowest n x) ∙ sym (lowest_first 16 n x)

length_lowest : (base n x : ℕ) → length (lowest base n x) ≡ n
unfolding lowest
length_lowest base zero x = refl
length_lowest base (suc n) x =
    length-append (lowest base n (x / base)) (digit_of (x % base) ∷ []) ∙ ap (λ (k : ℕ). k + 1) (length_lowest base n (x / base)) ∙ add-one n

-- put from the last digit on: what is left to put says the same as the whole
pub lowest_next : {d : ℕ} (base : ℕ) (o : List ℕ) (at i v : ℕ) → at < i → d ≡ digit_of (v % base)
    → sets o at (lowest base (i - at) v) ≡ sets (set o (i - 1) d) at (lowest base (i - 1 - at) (v / base))
unfolding lowest
lowest_next {d} base o at i v h e =
    let m : ℕ = i - 1 - at in
    let a : List ℕ = lowest base m (v / base) in
    let l = length_lowest base m (v / base) in
    let p : i - at ≡ suc m = omega arith in
    let q : at + length a ≡ i - 1 = omega arith in
    ap (λ (k : ℕ). sets o at (lowest base k v)) p
    ∙ sets-append o at a (digit_of (v % base) ∷ [])
    ∙ ap₂ (λ (j c : ℕ). set (sets o at a) j c) q (sym e)
    ∙ set-behind o at a (i - 1) d (omega arith)

pub lowest_done : (base : ℕ) (o₀ o : List ℕ) (at n x i v : ℕ) → at ≤ i → i ≤ at
    → sets o₀ at (lowest base n x) ≡ sets o at (lowest base (i - at) v) → Put o₀ at (lowest base n x) o (at + n)
unfolding lowest
lowest_done base o₀ o at n x i v h k e =
    let z : i - at ≡ 0 = omega arith in
    record {
      bytes = sym (e ∙ ap (λ (j : ℕ). sets o at (lowest base j v)) z);
      place = ap (λ (j : ℕ). at + j) (sym (length_lowest base n x));
    }

-- where there is room for a line, there is room for each of its pieces, behind those before it
pub ruleset pieces = (put-length, length-append, length-hex)
