-- Laws of `l1`: `flat` and the granule store, what a word reads, and that two valid words are read alike exactly if their `flat` is one
-- word.
use mathlib.Core.Path.{◌≡◌, refl, sym, ap, ◌∙◌, subst}
use mathlib.Core.Bool.{Bool, true, false}
use Prim.Native.Nat.{ℕ, ◌%◌, ◌^◌, ◌<◌}
use lib.ListN.{length, get_or}
use lib.Seq.{ext_get_or}
use Rattle.std.specs.Prelude.{None, Option, Some}
use Rattle.gpi.specs.declared.Gpi.{Gpi}
use Rattle.gpi.specs.declared.Size.{Size}
use Rattle.gpi.specs.Gpi.{num, gpi_at, is_known, known_at}
use Rattle.gpi.proofs.Rules.{num-lt, num-at, gpi-num, named}
use Rattle.granules.specs.Nibs.{nib, nibs, word, all}
use Rattle.granules.specs.Packed.{repeated, put}
use Rattle.l1.specs.L1.{l1_of, granules_of, read_at, read_of, contig_word, flat, flat_of}
use Rattle.granules.proofs.Digits.{length-nibs, get_or-nibs, word-nibs, all-at, all_set}
use Rattle.granules.proofs.Store.{nibs-put, put_same, put_other}
use Rattle.granules.proofs.Packed.{nib-repeated, repeated_lt}
use Rattle.l1.proofs.Entries.{l1_untagged, l1_granules, granules_known, l1_contig, l1_repeated}
use Rattle.l1.specs.declared.L1Entry.{L1Entry}
use Rattle.l1.specs.declared.L1Entry.TheVariants.{Contiguous, Granules}

-- ---- flat

-- a contiguous word of any size becomes its GPI sixteen times
pub flat-contig : (s : Size) (g : Gpi) → flat (contig_word s g) ≡ repeated (num g)
flat-contig s g = ap (λ (e : Option L1Entry). flat_of e (contig_word s g)) (l1_contig s g)

-- a word whose low nibble isn't 1 stays, valid or not
pub flat_untagged : (w : ℕ) → (w % 16 ≡ 1 → ⊥) → flat w ≡ w
flat_untagged w h = ap (λ (e : Option L1Entry). flat_of e w) (l1_untagged w h) ∙ go (all known_at (nibs 16 w))
  where
    go : (b : Bool) → flat_of (granules_of b) w ≡ w
    go true = refl
    go false = refl

-- what `flat` leaves of the entry: a valid word is one of granules, an invalid one stays invalid
abbrev pub coarse : Option L1Entry → Option L1Entry
coarse (Some (Contiguous g s)) = Some Granules
coarse (Some Granules) = Some Granules
coarse None = None

pub l1_flat : (w : ℕ) → l1_of (flat w) ≡ coarse (l1_of w)
l1_flat w = go (l1_of w) refl
  where
    go : (e : Option L1Entry) → l1_of w ≡ e → l1_of (flat_of e w) ≡ coarse e
    go (Some (Contiguous g s)) p = l1_repeated g
    go (Some Granules) p = p
    go None p = p

pub flat-idem : (w : ℕ) → flat (flat w) ≡ flat w
flat-idem w = ap (λ (e : Option L1Entry). flat_of e (flat w)) (l1_flat w) ∙ go (l1_of w)
  where
    go : (e : Option L1Entry) → flat_of (coarse e) (flat w) ≡ flat w
    go (Some (Contiguous g s)) = refl
    go (Some Granules) = refl
    go None = refl

pub flat-lt : (w : ℕ) → w < 2 ^ 64 → flat w < 2 ^ 64
flat-lt w h = go (l1_of w)
  where
    go : (e : Option L1Entry) → flat_of e w < 2 ^ 64
    go (Some (Contiguous g s)) = repeated_lt g
    go (Some Granules) = h
    go None = h

-- ---- what a granule reads

abbrev pub entry_reads : ℕ → ℕ → Option L1Entry → Option Gpi
entry_reads w i e = read_of e w i

pub repeated-reads : (g : Gpi) (i : ℕ) → i < 16 → read_at (repeated (num g)) i ≡ Some g
repeated-reads g i h =
    ap (entry_reads (repeated (num g)) i) (l1_repeated g) ∙ ap gpi_at (nib-repeated (num g) i (num-lt g) h) ∙ gpi-num g

-- every granule of the flat word reads the same
pub flat-reads : (w i : ℕ) → i < 16 → read_at (flat w) i ≡ read_at w i
flat-reads w i h = go (l1_of w) refl
  where
    go : (e : Option L1Entry) → l1_of w ≡ e → read_at (flat_of e w) i ≡ read_of e w i
    go (Some (Contiguous g s)) p = repeated-reads g i h
    go (Some Granules) p = ap (entry_reads w i) p
    go None p = ap (entry_reads w i) p

-- so words of one flat word read alike
pub same_reading : (v w i : ℕ) → i < 16 → flat v ≡ flat w → read_at v i ≡ read_at w i
same_reading v w i h e = sym (flat-reads v i h) ∙ ap (λ (x : ℕ). read_at x i) e ∙ flat-reads w i h

-- ---- a granule store into a word of granules

module _ (w i : ℕ) (g : Gpi) (hi : i < 16) (t : l1_of w ≡ Some Granules) where
  -- it leaves a word of granules,
  pub put-granules : l1_of (put w i (num g)) ≡ Some Granules
  put-granules =
      l1_granules (put w i (num g))
      (ap (all known_at) (nibs-put w i (num g) hi (num-lt g))
      ∙ all_set known_at (nibs 16 w) i (num g) (ap is_known (gpi-num g)) (granules_known w t))

  -- which reads g at the place
  pub put_reads : read_at (put w i (num g)) i ≡ Some g
  put_reads = ap (entry_reads (put w i (num g)) i) put-granules ∙ ap gpi_at (put_same w i (num g) hi (num-lt g)) ∙ gpi-num g

  -- and elsewhere what it read before
  pub put_keeps : (j : ℕ) → j < 16 → (j ≡ i → ⊥) → read_at (put w i (num g)) j ≡ read_at w j
  put_keeps j hj ne =
      ap (entry_reads (put w i (num g)) j) put-granules
      ∙ ap gpi_at (put_other w i (num g) hi (num-lt g) j hj ne) ∙ sym (ap (entry_reads w j) t)

-- ---- two valid words that read the same are flattened to one word

-- two nibbles that read one GPI are one
known_same : (a b : ℕ) → known_at a ≡ true → gpi_at a ≡ gpi_at b → a ≡ b
known_same a b t e = named _ a t (λ g p. p ∙ sym (num-at b g (sym e ∙ ap gpi_at p ∙ gpi-num g)))

granules_same : (w v : ℕ) → w < 2 ^ 64 → v < 2 ^ 64 → l1_of w ≡ Some Granules → l1_of v ≡ Some Granules
    → ((i : ℕ) → i < 16 → read_at w i ≡ read_at v i) → w ≡ v
granules_same w v hw hv gw gv same =
    sym (word-nibs 16 w hw)
    ∙ ap word (ext_get_or 0 (nibs 16 w) (nibs 16 v) (length-nibs 16 w ∙ sym (length-nibs 16 v)) one) ∙ word-nibs 16 v hv
  where
    one : (i : ℕ) → i < length (nibs 16 w) → get_or (nibs 16 w) i 0 ≡ get_or (nibs 16 v) i 0
    one i h =
        let k : i < 16 = subst (λ (n : ℕ). i < n) (length-nibs 16 w) h in
        let r : gpi_at (nib w i) ≡ gpi_at (nib v i) = sym (ap (entry_reads w i) gw) ∙ same i k ∙ ap (entry_reads v i) gv in
        let t : known_at (nib w i) ≡ true = ap known_at (sym (get_or-nibs 16 w i k)) ∙ all-at known_at (nibs 16 w) i (granules_known w gw) h in
        get_or-nibs 16 w i k ∙ known_same (nib w i) (nib v i) t r ∙ sym (get_or-nibs 16 v i k)

valid_granules : (e : Option L1Entry) → (e ≡ None → ⊥) → coarse e ≡ Some Granules
valid_granules (Some (Contiguous g s)) h = refl
valid_granules (Some Granules) h = refl
valid_granules None h = absurd (h refl)

pub reads-flat : (w v : ℕ) → w < 2 ^ 64 → v < 2 ^ 64 → (l1_of w ≡ None → ⊥) → (l1_of v ≡ None → ⊥)
    → ((i : ℕ) → i < 16 → read_at w i ≡ read_at v i) → flat w ≡ flat v
reads-flat w v hw hv iw iv same =
    granules_same (flat w) (flat v) (flat-lt w hw) (flat-lt v hv)
    (l1_flat w ∙ valid_granules (l1_of w) iw) (l1_flat v ∙ valid_granules (l1_of v) iv)
    (λ i h. flat-reads w i h ∙ same i h ∙ sym (flat-reads v i h))
