-- Laws of `granules`: sixteen GPIs and their word, the fold and the calls that make the one from the other, and the way there and back; one
-- GPI sixteen times.
use mathlib.Core.Path.{◌≡◌, refl, sym, ap, ap₂, ◌∙◌}
use mathlib.Core.List.{List, [], ◌∷◌, map, reverse}
use mathlib.Core.Bool.{true}
use Prim.Native.Nat.{ℕ, zero, suc, ◌+◌, ◌*◌, ◌/◌, ◌%◌, ◌^◌, ◌≤◌, ◌<◌}
use native.Mathlib.Decide.{ℕ_discrete}
use native.Mathlib.Nat.{pow-le-pow_right, mod-eq_of_lt}
use native.Mathlib.Omega.{arith}
use lib.Dec.{lit<}
use lib.ListN.{length, get_or, length-map, replicate, get_or-replicate}
use denote.Param.Members.{Mut, Called}
use Rattle.std.specs.Array.{IsFromFnResult, IsFromFnResultFrom}
use Rattle.std.specs.List.{fold}
use Rattle.std.proofs.lemmas.List.{same_lists, get_or-map}
use Rattle.std.proofs.lemmas.List.Sums.{fold_push}
use Rattle.std.proofs.lemmas.Grind.{reverse_onto}
use Rattle.gpi.specs.declared.Gpi.{Gpi}
use Rattle.gpi.specs.Gpi.{num, gpi_at, known_at}
use Rattle.gpi.proofs.Rules.{num-lt, gpi-num, named}
use Rattle.gpi.proofs.Table.{and_both}
use Rattle.granules.specs.Nibs.{nib, nibs, word, all}
use Rattle.granules.specs.Packed.{granule_word, gpis_of, or_no_access, repeated}
use Rattle.granules.proofs.Digits.{Small, length-nibs, word_lt, nibs-word, repeat16, nibs-replicate, get_or-nibs}
use Rattle.granules.proofs.Store.{shifted-nib}
use Rattle.std.specs.Prelude.{Option}

small_nums : (l : List Gpi) → Small (map num l)
small_nums [] = tt
small_nums (g ∷ l) = (num-lt g, small_nums l)

pub known_nums : (l : List Gpi) → all known_at (map num l) ≡ true
known_nums [] = refl
known_nums (g ∷ l) = rw (gpi-num g) (known_nums l)

-- ---- making a word, from the last GPI to the first

-- one more GPI, below those that the word has
abbrev pub below : ℕ → Gpi → ℕ
below w g = num g + w * 16 % 2 ^ 64

-- of fifteen GPIs nothing is shifted out
roomy : (l : List Gpi) → length l < 16 → granule_word l * 16 < 2 ^ 64
roomy l h =
    let b = word_lt (map num l) (small_nums l) in
    let p : 16 ^ length (map num l) ≤ 16 ^ 15 = pow-le-pow_right {n = 16} (lit< tt) {j = 15} (simp length-map (omega arith)) in
    omega arith

pub packed : (l : List Gpi) → length l ≤ 16 → fold below 0 (reverse l) ≡ granule_word l
unfolding word
packed [] h = refl
packed (g ∷ l) h =
    let r = roomy l (omega arith) in
    let ih = packed l (omega arith) in
    ap (fold below 0) (reverse_onto l g [])
    ∙ fold_push below 0 (reverse l) g
    ∙ ap (λ (n : ℕ). num g + n) (ap (λ (n : ℕ). n * 16 % 2 ^ 64) ih ∙ mod-eq_of_lt r)

-- ---- taking a word apart

abbrev back : ℕ → Gpi
back n = or_no_access (gpi_at n)

-- an array made by calls that leave the closure as it was and give the GPI of each nibble
module _ {F : Type 0} (g : Mut F (ℕ × Unit {0}) Gpi) (f : F) (w : ℕ) (a : List Gpi) (made : IsFromFnResult g f a 16)
    (call : (i : ℕ) (y : Gpi) (q : F) → Called g f (i, tt) y q → (q ≡ f) × (y ≡ back (w / 2 ^ (4 * i) % 16))) where
  calls : (n i : ℕ) (p : F) → p ≡ f → IsFromFnResultFrom g p a i n → (k : ℕ) (d : Gpi) → i ≤ k → k < i + n
      → get_or a k d ≡ back (nib w k)
  calls zero i p e r k d lo hi = absurd (omega arith)
  calls (suc n) i p e r k d lo hi =
      let c = call i r.1 r.0 (rw e at r.3) in
      go (ℕ_discrete k i) c (λ (h : i < k). calls n (i + 1) r.0 c.0 r.4 k d (omega arith) (omega arith))
    where
      go : Dec (k ≡ i) → (r.0 ≡ f) × (r.1 ≡ back (w / 2 ^ (4 * i) % 16)) → (i < k → get_or a k d ≡ back (nib w k))
          → get_or a k d ≡ back (nib w k)
      go (yes q) c ih = rw q (r.2.1 d ∙ c.1 ∙ ap back (shifted-nib w i))
      go (no q) c ih = ih (omega arith)

  pub gpis_made : a ≡ gpis_of w
  unfolding gpis_of
  gpis_made =
      same_lists a _ (made.long ∙ sym (length-map (nibs 16 w) back ∙ length-nibs 16 w))
      (λ k d l.
      let h : k < 16 = omega (arith, made.long) in
      calls 16 0 f refl made.each k d (omega arith) (omega arith)
      ∙ ap back (sym (get_or-nibs 16 w k h))
      ∙ sym (get_or-map back (nibs 16 w) k 0 d (rw length-nibs h)))

-- ---- the round trips

-- of a word of sixteen GPIs, the GPIs read back have its nibbles as their numbers
back_num : (n : ℕ) → known_at n ≡ true → num (back n) ≡ n
back_num n t = named _ n t (λ g e. ap (λ (x : Option Gpi). num (or_no_access x)) (ap gpi_at e ∙ gpi-num g) ∙ sym e)

pub back_nums : (l : List ℕ) → all known_at l ≡ true → map num (map (λ x. or_no_access (gpi_at x)) l) ≡ l
back_nums [] t = refl
back_nums (x ∷ l) t =
    let b = and_both (known_at x) (all known_at l) t in
    ap₂ (λ (y : ℕ) (ys : List ℕ). y ∷ ys) (back_num x b.0) (back_nums l b.1)

-- the numbers of sixteen GPIs are the nibbles of their word
pub nibs-packed : (a : List Gpi) → length a ≡ 16 → nibs 16 (granule_word a) ≡ map num a
nibs-packed a e =
    ap (λ (k : ℕ). nibs k (granule_word a)) (sym (length-map a num ∙ e)) ∙ nibs-word (map num a) (small_nums a)

nums_back : (l : List Gpi) → map (λ x. or_no_access (gpi_at x)) (map num l) ≡ l
nums_back [] = refl
nums_back (g ∷ l) = ap₂ (λ (x : Gpi) (xs : List Gpi). x ∷ xs) (ap or_no_access (gpi-num g)) (nums_back l)

-- sixteen GPIs made into a word and read back
pub there_and_back : (a : List Gpi) → length a ≡ 16 → gpis_of (granule_word a) ≡ a
unfolding gpis_of
there_and_back a e = ap (map (λ x. or_no_access (gpi_at x))) (nibs-packed a e) ∙ nums_back a

-- ---- one GPI sixteen times: each nibble is its number

pub nibs-repeated : (x : ℕ) → x < 16 → nibs 16 (repeated x) ≡ replicate 16 x
nibs-repeated x h = ap (nibs 16) (sym (repeat16 x)) ∙ nibs-replicate 16 x h

pub nib-repeated : (x i : ℕ) → x < 16 → i < 16 → nib (repeated x) i ≡ x
nib-repeated x i hx hi =
    sym (get_or-nibs 16 (repeated x) i hi) ∙ ap (λ (l : List ℕ). get_or l i 0) (nibs-repeated x hx) ∙ get_or-replicate 16 i x 0 hi

pub repeated_lt : (g : Gpi) → repeated (num g) < 2 ^ 64
repeated_lt g = omega (arith, num-lt g)
