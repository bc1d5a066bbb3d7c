-- Laws of `l1`: the Arm format has the laws that the theory of tables asks for, and the code's words and tests are the theory's.
use mathlib.Core.Path.{◌≡◌, refl, sym, ap, ◌∙◌}
use mathlib.Core.List.{List, ◌∷◌, map}
use mathlib.Core.Bool.{Bool, true, false, cond, ◌&&◌}
use mathlib.Core.Option.{Option as Maybe, none, some}
use Prim.Native.Nat.{ℕ, zero, suc, ◌%◌, ◌^◌, ◌<◌}
use native.Mathlib.Omega.{arith}
use borrow.Author.Tests.{eqb-true, eqb-false, eq-eqb, ne_eqb}
use lib.Dec.{lit<, eqb}
use lib.ListN.{replicate}
use Rattle.std.specs.Prelude.{None, Option, Some}
use Rattle.gpi.specs.declared.Gpi.{Gpi}
use Rattle.gpi.specs.declared.Size.{Size}
use Rattle.gpi.specs.declared.Size.TheVariants.{MB2, MB32, MB512}
use Rattle.gpi.specs.Gpi.{num, gpi_at, known_at}
use Rattle.gpi.specs.Size.{size_num, bytes_of}
use Rattle.gpi.proofs.Rules.{num-lt, gpi-num, known_lt, named, size_pos}
use Rattle.gpi.proofs.Table.{apart, and_both}
use Rattle.theory.specs.Format.{Laws, reads, reading, gpi}
use Rattle.theory.specs.Normal.{span}
use Rattle.theory.specs.Set.{bytes}
use Rattle.granules.specs.Nibs.{nib, nibs, word, all}
use Rattle.granules.specs.Packed.{repeated, put, granule_word}
use Rattle.l1.specs.L1.{l1_of, read_of, read_at, contig_word, flat, flat_of, match_at, match_of}
use Rattle.l1.specs.Arm.{valid_of, size_of, level_of, contig_at, arm}
use Rattle.granules.proofs.Digits.{nibs-step, alike16, repeat16}
use Rattle.granules.proofs.Store.{put_same, put_other}
use Rattle.granules.proofs.Packed.{nib-repeated, repeated_lt}
use Rattle.l1.proofs.Entries.{granules_known, l1_contig, l1_repeated}
use Rattle.l1.proofs.Alike.{coarse, l1_flat, flat-idem, entry_reads, repeated-reads, put-granules, reads-flat}
use Rattle.l1.specs.declared.L1Entry.{L1Entry}
use Rattle.l1.specs.declared.L1Entry.TheVariants.{Contiguous, Granules}

-- ---- numbers that are known are those of GPIs, levels those of sizes

pub gpi-of_known : (g : ℕ) → known_at g ≡ true → (x : Gpi) × (g ≡ num x)
gpi-of_known g k = named _ g k (λ x e. (x, e))

pub level_num : (s : Size) → size_num s ≡ suc (level_of s)
level_num s = elim s as (λ k. size_num k ≡ suc (level_of k)) [ MB2 ↦ refl | MB32 ↦ refl | MB512 ↦ refl ]

pub level_lt : (s : Size) → level_of s < 3
level_lt s = elim s as (λ k. level_of k < 3) [ MB2 ↦ lit< tt | MB32 ↦ lit< tt | MB512 ↦ lit< tt ]

size_of-level : (l : ℕ) → l < 3 → (s : Size) × (size_num s ≡ suc l)
size_of-level zero h = (MB2, refl)
size_of-level (suc zero) h = (MB32, refl)
size_of-level (suc (suc zero)) h = (MB512, refl)
size_of-level (suc (suc (suc l))) h = absurd (omega arith)

-- the format's contiguous word is the one that is made
contig_is : (l g : ℕ) (s : Size) (x : Gpi) → size_num s ≡ suc l → g ≡ num x → contig_at l g ≡ contig_word s x
contig_is l g s x p q = omega arith

-- ---- a word of granules

low_known : (w : ℕ) → l1_of w ≡ Some Granules → known_at (w % 16) ≡ true
low_known w e = (and_both (known_at (w % 16)) _ (rw (nibs-step 16 w (lit< tt)) at (granules_known w e))).0

-- a valid word's flat word is one of granules
flat-granules : (w : ℕ) → valid_of (l1_of w) ≡ true → l1_of (flat w) ≡ Some Granules
flat-granules w v = l1_flat w ∙ go (l1_of w) v
  where
    go : (e : Option L1Entry) → valid_of e ≡ true → coarse e ≡ Some Granules
    go (Some (Contiguous g s)) v = refl
    go (Some Granules) v = refl
    go None v = apart (cc)

flat-of_granules : (w : ℕ) → l1_of w ≡ Some Granules → flat w ≡ w
flat-of_granules w e = ap (λ (x : Option L1Entry). flat_of x w) e

-- ---- the laws

valid_flat : (w : ℕ) → valid_of (l1_of (flat w)) ≡ valid_of (l1_of w)
valid_flat w = ap valid_of (l1_flat w) ∙ go (l1_of w)
  where
    go : (e : Option L1Entry) → valid_of (coarse e) ≡ valid_of e
    go (Some (Contiguous g s)) = refl
    go (Some Granules) = refl
    go None = refl

flat-invalid : (w : ℕ) → valid_of (l1_of w) ≡ false → flat w ≡ w
flat-invalid w v = go (l1_of w) v
  where
    go : (e : Option L1Entry) → valid_of e ≡ false → flat_of e w ≡ w
    go (Some (Contiguous g s)) v = apart (cc)
    go (Some Granules) v = refl
    go None v = refl

known_low : (w : ℕ) → valid_of (l1_of w) ≡ true → known_at (flat w % 16) ≡ true
known_low w v = low_known (flat w) (flat-granules w v)

module _ (l g : ℕ) (h : l < 3) (k : known_at g ≡ true) where
  contig-entry : l1_of (contig_at l g) ≡ Some (Contiguous (gpi-of_known g k).0 (size_of-level l h).0)
  contig-entry =
      ap l1_of (contig_is l g (size_of-level l h).0 (gpi-of_known g k).0 (size_of-level l h).1 (gpi-of_known g k).1)
      ∙ l1_contig (size_of-level l h).0 (gpi-of_known g k).0

  flat-made : flat (contig_at l g) ≡ repeated g
  flat-made = ap (λ (e : Option L1Entry). flat_of e (contig_at l g)) contig-entry ∙ ap repeated (sym (gpi-of_known g k).1)

  size-made : size_of (l1_of (contig_at l g)) ≡ suc l
  size-made = ap size_of contig-entry ∙ (size_of-level l h).1

-- an entry that has a size code is contiguous, of that size and of the GPI that the theory takes it for
module _ (w l : ℕ) where
  pub contiguous : size_of (l1_of w) ≡ suc l → (g : Gpi) × (s : Size) × (l1_of w ≡ Some (Contiguous g s)) × (level_of s ≡ l) × (gpi arm w ≡ num g)
  contiguous e = go (l1_of w) refl e
    where
      go : (x : Option L1Entry) → l1_of w ≡ x → size_of x ≡ suc l
          → (g : Gpi) × (s : Size) × (l1_of w ≡ Some (Contiguous g s)) × (level_of s ≡ l) × (gpi arm w ≡ num g)
      go (Some (Contiguous g s)) p q = (g, s, p, omega (arith, level_num s), rw p (let h = num-lt g in omega arith))
      go (Some Granules) p q = absurd (omega arith)
      go None p q = absurd (omega arith)

  size_small : size_of (l1_of w) ≡ suc l → l < 3
  size_small e = let c = contiguous e in rw (← c.3) (level_lt c.1)

  size_valid : size_of (l1_of w) ≡ suc l → valid_of (l1_of w) ≡ true
  size_valid e = ap valid_of (contiguous e).2

  size_rep : size_of (l1_of w) ≡ suc l → flat w ≡ repeated (flat w % 16)
  size_rep e = let c = contiguous e in ap (λ (x : Option L1Entry). flat_of x w) c.2 ∙ sym (ap repeated c.4)

size_flat : (w : ℕ) → size_of (l1_of w) ≡ 0 → flat w ≡ w
size_flat w e = go (l1_of w) e
  where
    go : (x : Option L1Entry) → size_of x ≡ 0 → flat_of x w ≡ w
    go (Some (Contiguous g s)) e = let h = size_pos s in absurd (omega arith)
    go (Some Granules) e = refl
    go None e = refl

size_of-flat : (w : ℕ) → size_of (l1_of (flat w)) ≡ 0
size_of-flat w = ap size_of (l1_flat w) ∙ go (l1_of w)
  where
    go : (e : Option L1Entry) → size_of (coarse e) ≡ 0
    go (Some (Contiguous g s)) = refl
    go (Some Granules) = refl
    go None = refl

low_rep : (g : ℕ) → known_at g ≡ true → repeated g % 16 ≡ g
low_rep g k = let h = known_lt g k in omega arith

module _ (w j g : ℕ) (v : valid_of (l1_of w) ≡ true) (h : j < 16) (k : known_at g ≡ true) where
  put-entry : l1_of (put (flat w) j g) ≡ Some Granules
  put-entry =
      ap (λ (n : ℕ). l1_of (put (flat w) j n)) (gpi-of_known g k).1
      ∙ put-granules (flat w) j (gpi-of_known g k).0 h (flat-granules w v)

pub arm-laws : Laws arm
arm-laws =
    record {
      flat-flat = flat-idem;
      valid_flat = valid_flat;
      flat-invalid = flat-invalid;
      known_low = known_low;
      flat-contig = flat-made;
      size_small = size_small;
      size_valid = size_valid;
      size_rep = size_rep;
      size_flat = size_flat;
      size_of-flat = size_of-flat;
      size_contig = size-made;
      low_rep = low_rep;
      granule_rep = λ g j h k. nib-repeated g j (known_lt g k) h;
      put-valid = λ w j g v h k. ap valid_of (put-entry w j g v h k);
      put-flat = λ w j g v h k. flat-of_granules (put (flat w) j g) (put-entry w j g v h k);
      put_same = λ w j g v h k. put_same (flat w) j g h (known_lt g k);
      put_other = λ w j g i v h k b n. put_other (flat w) j g h (known_lt g k) i b n;
    }

-- ---- the code's words and tests as the theory's

-- the bytes of a size are those of its level
pub level_bytes : (s : Size) → bytes (level_of s) ≡ bytes_of s
unfolding span
level_bytes s = elim s as (λ k. bytes (level_of k) ≡ bytes_of k) [ MB2 ↦ refl | MB32 ↦ refl | MB512 ↦ refl ]

-- the contiguous word of a size, and the word of one GPI sixteen times
pub contig_arm : (s : Size) (g : Gpi) → contig_word s g ≡ arm.contig (level_of s) (num g)
contig_arm s g = sym (contig_is (level_of s) (num g) s g (level_num s) refl)

nums_replicate : (n : ℕ) (g : Gpi) → map num (replicate n g) ≡ replicate n (num g)
nums_replicate zero g = refl
nums_replicate (suc n) g = ap (λ (l : List ℕ). num g ∷ l) (nums_replicate n g)

pub granule_arm : (g : Gpi) → granule_word (replicate 16 g) ≡ arm.rep (num g)
granule_arm g = ap word (nums_replicate 16 g) ∙ repeat16 (num g)

-- a GPI sixteen times tells the GPI
repeated-eqb : (a b : ℕ) → eqb (repeated a) (repeated b) ≡ eqb a b
repeated-eqb a b = go (eqb a b) refl
  where
    go : (t : Bool) → eqb a b ≡ t → eqb (repeated a) (repeated b) ≡ t
    go true e = eq-eqb (repeated a) (repeated b) (ap repeated (eqb-true a b e))
    go false e = ne_eqb (repeated a) (repeated b) (λ q. eqb-false a b e (omega arith))

-- a word against a GPI, as the theory's scan judges it
pub match_is : (w : ℕ) (g : Gpi) → w < 2 ^ 64 → match_at w g ≡ cond (arm.valid w) (cond (reads arm w (num g)) (Some true) (Some false)) None
unfolding reads
match_is w g h = go (l1_of w)
  where
    same : (b c : Bool) → b ≡ c → Some c ≡ cond b (Some true) (Some false)
    same b true e = rw e
    same b false e = rw e

    go : (e : Option L1Entry) → match_of e w g ≡ cond (valid_of e) (cond (valid_of e && eqb (flat_of e w) (repeated (num g))) (Some true) (Some false)) None
    go (Some (Contiguous x s)) = same (eqb (repeated (num x)) (repeated (num g))) (eqb (num x) (num g)) (repeated-eqb (num x) (num g))
    go (Some Granules) = same (eqb w (repeated (num g))) (all (eqb (num g)) (nibs 16 w)) (sym (alike16 w (num g) h (num-lt g)))
    go None = refl

-- what a granule reads, as the theory says it
abbrev pub reading_of : Maybe ℕ → Option Gpi
reading_of (some n) = gpi_at n
reading_of none = None

pub read_is : (w n : ℕ) → n < 16 → read_at w n ≡ reading_of (reading arm w n)
unfolding reading
read_is w n h = go (l1_of w)
  where
    go : (e : Option L1Entry) → read_of e w n ≡ reading_of (cond (valid_of e) (some (nib (flat_of e w) n)) none)
    go (Some (Contiguous g s)) = sym (ap gpi_at (nib-repeated (num g) n (num-lt g) h) ∙ gpi-num g)
    go (Some Granules) = refl
    go None = refl

-- a word of 64 bits that reads g in all sixteen granules
pub reads_all : (v : ℕ) (g : Gpi) → v < 2 ^ 64 → ((n : ℕ) → n < 16 → read_at v n ≡ Some g) → reads arm v (num g) ≡ true
unfolding reads
reads_all v g b r = rw (valid (l1_of v) refl, eq-eqb (flat v) (repeated (num g)) same) refl
  where
    sound : l1_of v ≡ None → ⊥
    sound p = let z : None ≡ Some g = sym (ap (entry_reads v 0) p) ∙ r 0 (lit< tt) in apart (cc)

    valid : (e : Option L1Entry) → l1_of v ≡ e → valid_of e ≡ true
    valid (Some (Contiguous h s)) p = refl
    valid (Some Granules) p = refl
    valid None p = absurd (sound p)

    granules : l1_of (repeated (num g)) ≡ None → ⊥
    granules e = let z : Some Granules ≡ None = sym (l1_repeated g) ∙ e in apart (cc)

    same : flat v ≡ repeated (num g)
    same =
        reads-flat v (repeated (num g)) b (repeated_lt g) sound granules (λ n h. r n h ∙ sym (repeated-reads g n h))
        ∙ flat-of_granules (repeated (num g)) (l1_repeated g)
