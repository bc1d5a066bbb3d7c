-- Laws of `granules`: one test by masks is the table's rule at each nibble of a word, since a bit operation works on each nibble apart.
use mathlib.Core.Path.{◌≡◌, refl, ap, ap₂, ◌∙◌}
use mathlib.Core.Bool.{◌&&◌}
use Prim.Native.Nat.{ℕ, zero, suc, ◌+◌, ◌*◌, ◌/◌, ◌%◌, ◌<◌}
use native.Mathlib.Omega.{arith}
use borrow.Author.Tests.{ne_eqb}
use lib.Bits.{bit_and, bit_or, bit_xor, and_shr, or_shr, xor_shr, and_mod, or_mod, xor_mod, and_zero_r}
use lib.Dec.{eqb}
use lib.ListN.{replicate}
use Rattle.gpi.specs.Gpi.{known_at}
use Rattle.gpi.proofs.Table.{at, agree, agreed}
use Rattle.granules.specs.Nibs.{nibs, word, all}

-- the code's test, of a word and of the word moved by 1, 2 and 3 places: the mask m has the lowest bit of each nibble
abbrev pub reserved : ℕ → ℕ → ℕ → ℕ → ℕ → ℕ
reserved m a b c d = bit_and (bit_or (bit_and (bit_or a b) (bit_xor (bit_or c d) m)) (bit_and (bit_and c d) (bit_xor a m))) m

-- what takes a part of a word's bits may be done before the test
module _ (h : ℕ → ℕ) (ands : (x y : ℕ) → h (bit_and x y) ≡ bit_and (h x) (h y)) (ors : (x y : ℕ) → h (bit_or x y) ≡ bit_or (h x) (h y))
    (xors : (x y : ℕ) → h (bit_xor x y) ≡ bit_xor (h x) (h y)) where
  part : (m a b c d : ℕ) → h (reserved m a b c d) ≡ reserved (h m) (h a) (h b) (h c) (h d)
  part m a b c d = simp (ands, ors, xors)

-- the rule at one nibble: its bits, and the three above it that the moves bring in
abbrev test : ℕ → ℕ
test x = reserved 1 (x % 16) (x / 2 % 16) (x / 4 % 16) (x / 8 % 16)

rule : (x : ℕ) → x < 128 → eqb (test x) 0 ≡ known_at (x % 16)
rule x h = agreed (eqb (test x) 0) (known_at (x % 16)) (at (λ k. agree (eqb (test k) 0) (known_at (k % 16))) 128 refl x h)

-- the test of a word with one nibble more: its low nibble, and the rest
module _ (m w : ℕ) where
  abbrev more : ℕ
  more = reserved (1 + m * 16) w (w / 2) (w / 4) (w / 8)

  -- the seven lowest bits are all that the low nibble is judged by
  a : w % 16 ≡ w % 128 % 16
  a = omega arith

  b : w / 2 % 16 ≡ w % 128 / 2 % 16
  b = omega arith

  c : w / 4 % 16 ≡ w % 128 / 4 % 16
  c = omega arith

  d : w / 8 % 16 ≡ w % 128 / 8 % 16
  d = omega arith

  low : eqb (more % 16) 0 ≡ known_at (w % 16)
  low =
      let p =
      part (λ x. x % 16) (λ x y. and_mod x y 4) (λ x y. or_mod x y 4) (λ x y. xor_mod x y 4) (1 + m * 16) w (w / 2) (w / 4) (w / 8) in
      let e : (1 + m * 16) % 16 ≡ 1 = omega arith in
      rw (p, e, a, b, c, d) (rule (w % 128) (omega arith))

  high : more / 16 ≡ reserved m (w / 16) (w / 16 / 2) (w / 16 / 4) (w / 16 / 8)
  high =
      let e : (1 + m * 16) / 16 ≡ m = omega arith in
      let f : w / 2 / 16 ≡ w / 16 / 2 = omega arith in
      let g : w / 4 / 16 ≡ w / 16 / 4 = omega arith in
      let h : w / 8 / 16 ≡ w / 16 / 8 = omega arith in
      part (λ x. x / 16) (λ x y. and_shr x y 4) (λ x y. or_shr x y 4) (λ x y. xor_shr x y 4) (1 + m * 16) w (w / 2) (w / 4) (w / 8)
      ∙ rw (e, f, g, h)

-- a number is 0 just where its low nibble and the rest are
none : (x y : ℕ) → eqb (x + y * 16) 0 ≡ (eqb x 0 && eqb y 0)
none zero zero = refl
none zero (suc y) = rw (ne_eqb (0 + suc y * 16) 0 (λ e. omega arith), ne_eqb (suc y) 0 (λ e. omega arith))
none (suc x) y = rw (ne_eqb (suc x + y * 16) 0 (λ e. omega arith), ne_eqb (suc x) 0 (λ e. omega arith))

pub masks : (n w : ℕ) → eqb (reserved (word (replicate n 1)) w (w / 2) (w / 4) (w / 8)) 0 ≡ all known_at (nibs n w)
unfolding word nibs
masks zero w = simp and_zero_r
masks (suc n) w =
    let m : ℕ = word (replicate n 1) in
    let v : ℕ = more m w in
    let e : v ≡ v % 16 + v / 16 * 16 = omega arith in
    ap (λ (x : ℕ). eqb x 0) e ∙ none (v % 16) (v / 16) ∙ ap₂ ◌&&◌ (low m w) (ap (λ (x : ℕ). eqb x 0) (high m w) ∙ masks n (w / 16))
