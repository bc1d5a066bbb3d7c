-- Crate resolve. Two addresses lie in one granule exactly if they have the same L0 entry, the same word of its table and the same granule
-- there. Over the widths, never per granule size.
use mathlib.Core.Path.{◌≡◌, sym, ap, ap₂, ◌∙◌}
use Prim.Native.Nat.{ℕ, ◌+◌, ◌-◌, ◌*◌, ◌/◌, ◌%◌, ◌<◌, ◌^◌}
use native.Mathlib.Nat.{mod-eq_of_lt, div-add-mod', div-div-eq-div-mul}
use native.Mathlib.Omega.{arith}
use lib.Pow.{pow-add, field}
use Rattle.config.specs.declared.Widths.{Widths}
use Rattle.config.specs.Index.{l0_index, l1_words, l1_index, granule_index, granule_bytes}
use Rattle.config.specs.Widths.{Listed}

module _ (w : Widths) (h : Listed w) where
  -- a word is sixteen granules
  word-as : (x : ℕ) → x / 2 ^ (w.pgs + 4) ≡ x / granule_bytes w / 16
  word-as x = ap (λ (n : ℕ). x / n) (pow-add 2 w.pgs 4) ∙ sym (div-div-eq-div-mul x (2 ^ w.pgs) 16)

  -- the indices by the granule's number in the whole space
  l1-as : (x : ℕ) → l1_index w x ≡ x / granule_bytes w / 16 % l1_words w
  l1-as x =
      let e : w.l0gptsz ≡ w.l0gptsz - (w.pgs + 4) + (w.pgs + 4) = omega arith in
      ap (λ (k : ℕ). x % 2 ^ k / 2 ^ (w.pgs + 4)) e ∙ field x (w.l0gptsz - (w.pgs + 4)) (w.pgs + 4)
      ∙ ap (λ (n : ℕ). n % l1_words w) (word-as x)

  l0-as : (x : ℕ) → x < 2 ^ w.pps → l0_index w x ≡ x / granule_bytes w / 16 / l1_words w
  l0-as x b =
      let e : w.l0gptsz ≡ w.pgs + 4 + (w.l0gptsz - (w.pgs + 4)) = omega arith in
      ap (λ (n : ℕ). n / 2 ^ w.l0gptsz) (mod-eq_of_lt b)
      ∙ ap (λ (k : ℕ). x / 2 ^ k) e ∙ ap (λ (n : ℕ). x / n) (pow-add 2 (w.pgs + 4) (w.l0gptsz - (w.pgs + 4)))
      ∙ sym (div-div-eq-div-mul x (2 ^ (w.pgs + 4)) (l1_words w)) ∙ ap (λ (n : ℕ). n / l1_words w) (word-as x)

  module _ (x y : ℕ) (a : x < 2 ^ w.pps) (b : y < 2 ^ w.pps) where
    pub same_granule : l0_index w x ≡ l0_index w y → l1_index w x ≡ l1_index w y → granule_index w x ≡ granule_index w y
        → x / granule_bytes w ≡ y / granule_bytes w
    same_granule p q r =
        let n = l1_words w in
        let p' : x / granule_bytes w / 16 / n ≡ y / granule_bytes w / 16 / n = sym (l0-as x a) ∙ p ∙ l0-as y b in
        let q' : x / granule_bytes w / 16 % n ≡ y / granule_bytes w / 16 % n = sym (l1-as x) ∙ q ∙ l1-as y in
        let k : x / granule_bytes w / 16 ≡ y / granule_bytes w / 16 =
        sym (div-add-mod' (x / granule_bytes w / 16) n) ∙ ap₂ (λ (i j : ℕ). i * n + j) p' q' ∙ div-add-mod' (y / granule_bytes w / 16) n in
        sym (div-add-mod' (x / granule_bytes w) 16) ∙ ap₂ (λ (i j : ℕ). i * 16 + j) k r ∙ div-add-mod' (y / granule_bytes w) 16

    pub same_indices : x / granule_bytes w ≡ y / granule_bytes w
        → (l0_index w x ≡ l0_index w y) × (l1_index w x ≡ l1_index w y) × (granule_index w x ≡ granule_index w y)
    same_indices e = (
      l0-as x a ∙ ap (λ (g : ℕ). g / 16 / l1_words w) e ∙ sym (l0-as y b),
      l1-as x ∙ ap (λ (g : ℕ). g / 16 % l1_words w) e ∙ sym (l1-as y),
      ap (λ (g : ℕ). g % 16) e,
    )
