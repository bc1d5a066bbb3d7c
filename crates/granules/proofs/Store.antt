-- Laws of `granules`: the granule store, as the code computes it, is the store in the list of nibbles; and what it leaves.
use mathlib.Core.Path.{◌≡◌, refl, sym, ap, ap₂, ◌∙◌, subst}
use mathlib.Core.List.{List}
use mathlib.Core.Bool.{Bool, true, false}
use Prim.Native.Nat.{ℕ, zero, suc, ◌+◌, ◌-◌, ◌*◌, ◌/◌, ◌%◌, ◌^◌, ◌≤◌, ◌<◌}
use native.Mathlib.Nat.{zero-add, pow-suc, mul-suc, zero-mul, mod-lt}
use native.Mathlib.Omega.{arith}
use lib.Pow.{pow-add, shl_exact}
use lib.Dec.{lit<}
use lib.ListN.{length, get_or, set, length-set}
use lib.Seq.{get_or-set_same, get_or-set_other}
use Rattle.std.specs.Bool.{MatchBool}
use Rattle.std.specs.List.{range_with_len, AllWithin, HoldsAt}
use Rattle.std.proofs.lemmas.List.FromFn.{get_or-range_with_len}
use Rattle.granules.specs.Nibs.{nib, nibs, all}
use Rattle.granules.specs.Packed.{put}
use Rattle.granules.proofs.Digits.{Small, length-nibs, small_nibs, get_or-nibs, word-nibs, nibs-word, word_lt, small_set, word_set, all_each, all_fails}

-- a shift by 4 * i is by i nibbles
pub shift16 : (i : ℕ) → 2 ^ (4 * i) ≡ 16 ^ i
shift16 zero = refl
shift16 (suc i) = ap (λ (k : ℕ). 2 ^ k) (mul-suc 4 i) ∙ pow-add 2 (4 * i) 4 ∙ ap (λ (k : ℕ). k * 16) (shift16 i) ∙ sym (pow-suc 16 i)

pub shifted-nib : (w i : ℕ) → w / 2 ^ (4 * i) % 16 ≡ nib w i
shifted-nib w i = ap (λ (p : ℕ). w / p % 16) (shift16 i)

-- a test of the nibbles by their places
module _ (f : ℕ → Bool) (w : ℕ) where
  at-place : (k : ℕ) → k < 16 → f (get_or (nibs 16 w) k 0) ≡ f (w / 2 ^ (4 * get_or (range_with_len 0 16) k 0) % 16)
  at-place k h =
      ap f (get_or-nibs 16 w k h ∙ sym (shifted-nib w k))
      ∙ ap (λ (i : ℕ). f (w / 2 ^ (4 * i) % 16)) (sym (get_or-range_with_len 0 16 k 0 h ∙ zero-add k))

  pub all-places : (r : Bool)
      → MatchBool r (AllWithin (λ i. f (w / 2 ^ (4 * i) % 16) ≡ true) (range_with_len 0 16) 0 16)
      ((k : ℕ) × (k < 16) × HoldsAt (λ i. f (w / 2 ^ (4 * i) % 16) ≡ false) (range_with_len 0 16) k)
      → r ≡ all f (nibs 16 w)
  all-places true h =
      sym (all_each f (nibs 16 w) (λ k l. let b : k < 16 = rw length-nibs at l in at-place k b ∙ h k 0 (omega arith) b))
  all-places false h =
      sym (all_fails f (nibs 16 w) h.0 (rw length-nibs h.1) (at-place h.0 h.1 ∙ h.2 0))

-- a nibble shifted to its place loses nothing
pub shifted_in : (x i : ℕ) → x < 16 → i < 16 → (x * 2 ^ (4 * i)) % 2 ^ 64 ≡ x * 16 ^ i
shifted_in x i hx hi = shl_exact 4 (4 * i) 64 hx (omega arith) ∙ ap (λ (p : ℕ). x * p) (shift16 i)

module _ (w i x : ℕ) (hi : i < 16) (hx : x < 16) where
  in-nibs : i < length (nibs 16 w)
  in-nibs = subst (λ (k : ℕ). i < k) (sym (length-nibs 16 w)) hi

  small_put : Small (set (nibs 16 w) i x)
  small_put = small_set (nibs 16 w) i x hx (small_nibs 16 w)

  length-put : length (set (nibs 16 w) i x) ≡ 16
  length-put = length-set (nibs 16 w) i x ∙ length-nibs 16 w

  -- the word after the store fits
  pub put-lt : put w i x < 2 ^ 64
  put-lt = subst (λ (k : ℕ). put w i x < 16 ^ k) length-put (word_lt (set (nibs 16 w) i x) small_put)

  -- its nibbles are the old ones with one replaced
  pub nibs-put : nibs 16 (put w i x) ≡ set (nibs 16 w) i x
  nibs-put = ap (λ (k : ℕ). nibs k (put w i x)) (sym length-put) ∙ nibs-word (set (nibs 16 w) i x) small_put

  pub put_same : nib (put w i x) i ≡ x
  put_same = sym (get_or-nibs 16 (put w i x) i hi) ∙ ap (λ (l : List ℕ). get_or l i 0) nibs-put ∙ get_or-set_same (nibs 16 w) i x 0 in-nibs

  pub put_other : (j : ℕ) → j < 16 → (j ≡ i → ⊥) → nib (put w i x) j ≡ nib w j
  put_other j hj ne =
      sym (get_or-nibs 16 (put w i x) j hj) ∙ ap (λ (l : List ℕ). get_or l j 0) nibs-put
      ∙ get_or-set_other (nibs 16 w) i j x 0 ne ∙ get_or-nibs 16 w j hj

  -- as a sum: the old nibble's share goes, and the new one's comes
  moved : w < 2 ^ 64 → put w i x + nib w i * 16 ^ i ≡ w + x * 16 ^ i
  moved hw =
      ap (λ (k : ℕ). put w i x + k * 16 ^ i) (sym (get_or-nibs 16 w i hi)) ∙ word_set (nibs 16 w) i x in-nibs
      ∙ ap (λ (k : ℕ). k + x * 16 ^ i) (word-nibs 16 w hw)

-- what is taken away is there
pub nib-le : (w i : ℕ) → w < 2 ^ 64 → i < 16 → nib w i * 16 ^ i ≤ w
nib-le w i hw hi = omega (arith, moved w i 0 hi (lit< tt) hw, zero-mul (16 ^ i))

-- as the code computes it
module _ (w i x : ℕ) (hw : w < 2 ^ 64) (hi : i < 16) (hx : x < 16) where
  pub taken : (w / 2 ^ (4 * i) % 16 * 2 ^ (4 * i)) % 2 ^ 64 ≡ nib w i * 16 ^ i
  taken = ap (λ (k : ℕ). (k * 2 ^ (4 * i)) % 2 ^ 64) (shifted-nib w i) ∙ shifted_in (nib w i) i (mod-lt (w / 16 ^ i) (lit< tt)) hi

  pub stored : w - (w / 2 ^ (4 * i) % 16 * 2 ^ (4 * i)) % 2 ^ 64 + (x * 2 ^ (4 * i)) % 2 ^ 64 ≡ put w i x
  stored =
      ap₂ (λ (a b : ℕ). w - a + b) taken (shifted_in x i hx hi)
      ∙ (let m = moved w i x hi hx hw in let l = nib-le w i hw hi in omega arith)
