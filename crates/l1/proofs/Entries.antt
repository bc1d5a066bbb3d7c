-- Laws of `l1`: what an L1 word says; the kinds never meet, and a word that was made says what it was made of.
use mathlib.Core.Path.{◌≡◌, refl, sym, ap, ap₂, ◌∙◌}
use mathlib.Core.Bool.{Bool, true, false}
use Prim.Native.Nat.{ℕ, zero, suc, ◌/◌, ◌%◌, ◌^◌, ◌<◌, ◌≤◌}
use native.Mathlib.Decide.{ℕ_discrete}
use native.Mathlib.Omega.{arith}
use borrow.Author.Tests.{eq-eqb, ne_eqb}
use lib.Dec.{lit<}
use Rattle.std.specs.Prelude.{None, Option, Some}
use Rattle.gpi.specs.declared.Gpi.{Gpi}
use Rattle.gpi.specs.declared.Size.{Size}
use Rattle.gpi.specs.declared.Size.TheVariants.{MB2, MB32, MB512}
use Rattle.gpi.specs.Gpi.{num, gpi_at, is_known, known_at}
use Rattle.gpi.specs.Size.{size_num, size_at}
use Rattle.gpi.proofs.Table.{apart}
use Rattle.gpi.proofs.Rules.{num-lt, gpi-num, size_num_lem, size_lt}
use Rattle.granules.specs.Nibs.{nibs, all}
use Rattle.granules.specs.Packed.{repeated}
use Rattle.l1.specs.L1.{l1_of, contiguous_of, granules_of, contig_word}
use Rattle.l1.specs.declared.L1Entry.TheVariants.{Contiguous, Granules}
use Rattle.granules.proofs.Digits.{all_replicate, walk_miss}
use Rattle.granules.proofs.Packed.{nibs-repeated}

-- ---- L1: by the low nibble

pub l1_tagged : (w : ℕ) → w % 16 ≡ 1 → l1_of w ≡ contiguous_of (gpi_at (w / 16 % 16)) (size_at (w / 256 % 4))
unfolding l1_of
l1_tagged w h = rw (eq-eqb (w % 16) 1 h)

pub l1_untagged : (w : ℕ) → (w % 16 ≡ 1 → ⊥) → l1_of w ≡ granules_of (all known_at (nibs 16 w))
unfolding l1_of
l1_untagged w h = rw (ne_eqb (w % 16) 1 h)

-- as the code asks it, by `granules::all_valid`
pub l1_asked : (w : ℕ) {r b : Bool} → (w % 16 ≡ 1 → ⊥) → r ≡ all known_at (nibs 16 w) → r ≡ b → l1_of w ≡ granules_of b
l1_asked w h e t = l1_untagged w h ∙ ap granules_of (sym e ∙ t)

-- a contiguous word with no size is invalid, and any other has some size
pub l1_unsized : (w : ℕ) → w % 16 ≡ 1 → w % 1024 < 256 → l1_of w ≡ None
l1_unsized w t h =
    let z : w / 256 % 4 ≡ 0 = omega arith in
    l1_tagged w t ∙ ap (λ (k : ℕ). contiguous_of (gpi_at (w / 16 % 16)) (size_at k)) z ∙ none (gpi_at (w / 16 % 16))
  where
    none : (n : Option Gpi) → contiguous_of n None ≡ None
    none (Some g) = refl
    none None = refl

pub l1_sized : (w : ℕ) → w % 16 ≡ 1 → 256 ≤ w % 1024 → (s : Size) × (l1_of w ≡ contiguous_of (gpi_at (w / 16 % 16)) (Some s))
l1_sized w t h =
    let e = some (w / 256 % 4) (omega arith) (omega arith) in
    (e.0, l1_tagged w t ∙ ap (contiguous_of (gpi_at (w / 16 % 16))) e.1)
  where
    some : (k : ℕ) → 1 ≤ k → k < 4 → (s : Size) × (size_at k ≡ Some s)
    some zero l h = absurd (omega arith)
    some (suc zero) l h = (MB2, refl)
    some (suc (suc zero)) l h = (MB32, refl)
    some (suc (suc (suc zero))) l h = (MB512, refl)
    some (suc (suc (suc (suc k)))) l h = absurd (omega arith)

-- nibble 1 is reserved, so the two kinds of word never meet
low_known : (w : ℕ) → all known_at (nibs 16 w) ≡ true → w % 16 ≡ 1 → ⊥
low_known w t e =
    let p : true ≡ false = sym t ∙ walk_miss known_at 16 w (lit< tt) (ap known_at e) in apart (cc)

-- a word is of granules exactly if all sixteen nibbles are known
pub l1_granules : (w : ℕ) → all known_at (nibs 16 w) ≡ true → l1_of w ≡ Some Granules
l1_granules w t = l1_untagged w (low_known w t) ∙ ap granules_of t

pub granules_known : (w : ℕ) → l1_of w ≡ Some Granules → all known_at (nibs 16 w) ≡ true
granules_known w e = go (ℕ_discrete (w % 16) 1)
  where
    tagged : (x : Option Gpi) (c : Option Size) → contiguous_of x c ≡ Some Granules → ⊥
    tagged (Some g) (Some s) e = apart (cc)
    tagged (Some g) None e = apart (cc)
    tagged None c e = apart (cc)

    all_of : (b : Bool) → granules_of b ≡ Some Granules → b ≡ true
    all_of true e = refl
    all_of false e = apart (cc)

    go : Dec (w % 16 ≡ 1) → all known_at (nibs 16 w) ≡ true
    go (yes h) = absurd (tagged (gpi_at (w / 16 % 16)) (size_at (w / 256 % 4)) (sym (l1_tagged w h) ∙ e))
    go (no h) = all_of (all known_at (nibs 16 w)) (sym (l1_untagged w h) ∙ e)

-- ---- words that were made

-- a contiguous word says its GPI and its size
pub l1_contig : (s : Size) (g : Gpi) → l1_of (contig_word s g) ≡ Some (Contiguous g s)
l1_contig s g =
    let hg = num-lt g in
    let hs = size_lt s in
    let a : contig_word s g / 16 % 16 ≡ num g = omega arith in
    let b : contig_word s g / 256 % 4 ≡ size_num s = omega arith in
    l1_tagged (contig_word s g) (omega arith) ∙ ap₂ contiguous_of (ap gpi_at a ∙ gpi-num g) (ap size_at b ∙ size_num_lem s)

pub contig_lt : (s : Size) (g : Gpi) → contig_word s g < 2 ^ 64
contig_lt s g = omega (arith, num-lt g, size_lt s)

-- a GPI sixteen times is a word of granules
pub l1_repeated : (g : Gpi) → l1_of (repeated (num g)) ≡ Some Granules
l1_repeated g =
    l1_granules (repeated (num g))
    (ap (all known_at) (nibs-repeated (num g) (num-lt g)) ∙ all_replicate known_at 16 (num g) (ap is_known (gpi-num g)))
