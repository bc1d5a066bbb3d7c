-- The arithmetic of widths, once for every granule size: powers of two as the code computes them, where an index lies, how many words a
-- size has, and that the 512 MB range of any word lies in its table. Crate `config`.
use mathlib.Core.Path.{◌≡◌, refl, sym, ap, ◌∙◌}
use Prim.Native.Nat.{ℕ, ◌+◌, ◌-◌, ◌*◌, ◌/◌, ◌%◌, ◌≤◌, ◌<◌, ◌^◌}
use native.Mathlib.Nat.{one-mul, mod-lt, div-lt_iff_lt-mul, mul-le-mul_right, add-mul}
use native.Mathlib.Omega.{arith}
use lib.Bits.{bit_and, and_mask}
use lib.Dec.{lit<}
use lib.Pow.{pow_pos, pow_mono, pow-add, shl_exact, shl-shr, shr_lt}
use Rattle.gpi.specs.declared.Size.{Size}
use Rattle.gpi.specs.declared.Size.TheVariants.{MB2, MB32, MB512}
use Rattle.gpi.specs.Size.{size_num, bytes_of}
use Rattle.config.specs.declared.Widths.{Widths}
use Rattle.config.specs.Index.{l0_entries, l0_index, l1_words, l1_index, granule_index, size_words}
use Rattle.config.specs.Widths.{Listed}

-- ---- as the code computes it

pub shift_one : (k : ℕ) → k < 64 → (1 * 2 ^ k) % 2 ^ 64 ≡ 2 ^ k
shift_one k h = shl_exact {a = 1} 1 k 64 (lit< tt) (omega arith) ∙ one-mul (2 ^ k)

-- a power that a callee handed back, less one, is a mask
pub mask_is : (x k p : ℕ) → p ≡ 2 ^ k → bit_and x (p - 1) ≡ x % 2 ^ k
mask_is x k p e = ap (λ (q : ℕ). bit_and x (q - 1)) e ∙ and_mask x k

pub ruleset masks = (mask_is, pow_pos)

-- ---- where an index lies

module _ (w : Widths) (l : Listed w) where
  -- every address has its L0 entry, its word and its granule
  pub l0_in : (a : ℕ) → l0_index w a < l0_entries w
  l0_in a =
      let e : w.pps - w.l0gptsz + w.l0gptsz ≡ w.pps = omega arith in
      shr_lt (w.pps - w.l0gptsz) w.l0gptsz (rw e (mod-lt a (pow_pos w.pps)))

  pub l1_in : (a : ℕ) → l1_index w a < l1_words w
  l1_in a =
      let e : w.l0gptsz - (w.pgs + 4) + (w.pgs + 4) ≡ w.l0gptsz = omega arith in
      shr_lt (w.l0gptsz - (w.pgs + 4)) (w.pgs + 4) (rw e (mod-lt a (pow_pos w.l0gptsz)))

  pub granule_in : (a : ℕ) → granule_index w a < 16
  granule_in a = mod-lt (a / 2 ^ w.pgs) (lit< tt)

  -- "at most 2^23"
  pub l1_most : l1_words w ≤ 2 ^ 23
  l1_most = pow_mono {j = 23} (omega arith)

  -- ---- the words of a size

  -- 2 MB is 21 bits, and each size has four more than the one below
  bytes_pow : (s : Size) → bytes_of s ≡ 2 ^ (17 + 4 * size_num s)
  bytes_pow s = elim s as (λ k. bytes_of k ≡ 2 ^ (17 + 4 * size_num k)) [ MB2 ↦ refl | MB32 ↦ refl | MB512 ↦ refl ]

  pub words_pow : (s : Size) → 1 ≤ size_num s → size_words w s ≡ 2 ^ (13 + 4 * size_num s - w.pgs)
  words_pow s h =
      let e : 17 + 4 * size_num s ≡ 13 + 4 * size_num s - w.pgs + (w.pgs + 4) = omega arith in
      ap (λ (b : ℕ). b / 2 ^ (w.pgs + 4)) (bytes_pow s ∙ ap (λ (k : ℕ). 2 ^ k) e ∙ pow-add 2 (13 + 4 * size_num s - w.pgs) (w.pgs + 4))
      ∙ shl-shr (2 ^ (13 + 4 * size_num s - w.pgs)) (w.pgs + 4)

  -- the words of 2 MB: 32, 8 or 2; those of each size are sixteen times those of the one below
  pub words_2 : size_words w MB2 ≡ 2 ^ (17 - w.pgs)
  words_2 = words_pow MB2 (lit< tt)

  times-16 : (r s : Size) → 1 ≤ size_num r → size_num s ≡ size_num r + 1 → size_words w s ≡ 16 * size_words w r
  times-16 r s h e =
      let k : 13 + 4 * size_num s - w.pgs ≡ 4 + (13 + 4 * size_num r - w.pgs) = omega arith in
      words_pow s (omega arith) ∙ ap (λ (n : ℕ). 2 ^ n) k ∙ pow-add 2 4 (13 + 4 * size_num r - w.pgs)
      ∙ ap (λ (n : ℕ). 16 * n) (sym (words_pow r h))

  pub words_32 : size_words w MB32 ≡ 16 * size_words w MB2
  words_32 = times-16 MB2 MB32 (lit< tt) refl

  pub words_512 : size_words w MB512 ≡ 16 * size_words w MB32
  words_512 = times-16 MB32 MB512 (lit< tt) refl

  pub words_least : (s : Size) → 1 ≤ size_num s → 1 ≤ size_words w s
  words_least s h = rw (words_pow s h) (pow_pos (13 + 4 * size_num s - w.pgs))

  pub words_2_most : size_words w MB2 ≤ 32
  words_2_most = rw words_2 (pow_mono {j = 5} (omega arith))

  -- ---- a table is of whole 512 MB regions

  pub regions : l1_words w ≡ 2 ^ (w.l0gptsz - 29) * size_words w MB512
  regions =
      let e : w.l0gptsz - (w.pgs + 4) ≡ w.l0gptsz - 29 + (25 - w.pgs) = omega arith in
      ap (λ (k : ℕ). 2 ^ k) e ∙ pow-add 2 (w.l0gptsz - 29) (25 - w.pgs)
      ∙ ap (λ (n : ℕ). 2 ^ (w.l0gptsz - 29) * n) (sym (words_pow MB512 (lit< tt)))

  -- so the aligned 512 MB range of any index lies in it
  pub region_in : (i : ℕ) → i < l1_words w → i / size_words w MB512 * size_words w MB512 + size_words w MB512 ≤ l1_words w
  region_in i h =
      let n = size_words w MB512 in
      let q : i / n < 2 ^ (w.l0gptsz - 29) = (div-lt_iff_lt-mul (words_least MB512 (lit< tt))).1 (rw regions at h) in
      let m : (i / n + 1) * n ≤ 2 ^ (w.l0gptsz - 29) * n = mul-le-mul_right n (omega arith) in
      rw regions (omega (arith, simp (add-mul, one-mul) at m))
