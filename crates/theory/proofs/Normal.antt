-- The normal table: a function of what the table reads, that reads the same, is its own normal table, and is the one such table. Of the
-- crate `theory`.
use mathlib.Core.Path.{◌≡◌, refl, sym, ap, ◌∙◌}
use mathlib.Core.Bool.{Bool, true, false, cond}
use mathlib.Core.List.{List, map}
use Prim.Native.Nat.{ℕ, zero, suc, ◌≤◌, ◌<◌}
use native.Mathlib.Nat.{zero-add}
use native.Mathlib.Omega.{arith}
use borrow.Author.Tests.{eqb-true}
use lib.Dec.{eqb}
use lib.ListN.{length, length-map, get_or-map}
use lib.Seq.{ext_get_or}
use Rattle.theory.specs.Format.{Format, Laws, gpi, reads}
use Rattle.theory.specs.Normal.{at, span, base, In, alike, largest_alike, normal_up_to, normal_word, normal}
use Rattle.theory.proofs.Lists.{and_left, and_right, every-at, every_of, every-ext, length-build, build-ext, at-build, map_at}
use Rattle.theory.proofs.Lists.{map-length}
use Rattle.theory.proofs.Ranges.{span_pos, in_of, in_self}

module _ (F : Format) where
  -- The normal word in one piece, as document 01 has it: an invalid word is kept; a valid one takes the largest of 512, 32, 2 MB whose
  -- aligned range is valid throughout and of its GPI, as that contiguous word; else its sixteen granules.
  pub normal-says : (u : ℕ) (r : ℕ → ℕ) (i : ℕ)
      → let g : ℕ = gpi F (r i) in
      normal_word F u r i
      ≡ cond (F.valid (r i))
      (cond (alike F r (span u 2) i g) (F.contig 2 g)
      (cond (alike F r (span u 1) i g) (F.contig 1 g)
      (cond (alike F r (span u 0) i g) (F.contig 0 g)
      (F.flat (r i)))))
      (r i)
  unfolding normal_up_to largest_alike
  normal-says u r i = refl

  pub reads-valid : (w g : ℕ) → reads F w g ≡ true → F.valid w ≡ true
  unfolding reads
  reads-valid w g e = and_left (F.valid w) (eqb (F.flat w) (F.rep g)) e

  pub reads-flat : (w g : ℕ) → reads F w g ≡ true → F.flat w ≡ F.rep g
  unfolding reads
  reads-flat w g e = eqb-true (F.flat w) (F.rep g) (and_right (F.valid w) (eqb (F.flat w) (F.rep g)) e)

  -- a range that is alike, word by word
  module _ (r : ℕ → ℕ) (n i g : ℕ) where
    pub alike-reads : alike F r n i g ≡ true → (k : ℕ) → In n i k → reads F (r k) g ≡ true
    unfolding alike
    alike-reads e k h = every-at (λ j. reads F (r j) g) (base n i) n e k h.from h.to

    pub alike_of : ((k : ℕ) → In n i k → reads F (r k) g ≡ true) → alike F r n i g ≡ true
    unfolding alike
    alike_of h = every_of (λ j. reads F (r j) g) (base n i) n (λ k lo hi. h k (in_of n i k lo hi))

    pub alike-flat : alike F r n i g ≡ true → (k : ℕ) → In n i k → F.flat (r k) ≡ F.rep g
    alike-flat e k h = reads-flat (r k) g (alike-reads e k h)

module _ (F : Format) (L : Laws F) where
  -- ---- words of one flat word are told apart by nothing here

  pub same_valid : (v w : ℕ) → F.flat v ≡ F.flat w → F.valid v ≡ F.valid w
  same_valid v w e = cc (L.valid_flat v, L.valid_flat w)

  same_reads : (v w g : ℕ) → F.flat v ≡ F.flat w → reads F v g ≡ reads F w g
  unfolding reads
  same_reads v w g e = rw (same_valid v w e, e) refl

  module _ (u : ℕ) (r s : ℕ → ℕ) (e : (j : ℕ) → F.flat (r j) ≡ F.flat (s j)) where
    same_alike : (n i g : ℕ) → alike F r n i g ≡ alike F s n i g
    unfolding alike
    same_alike n i g = every-ext (λ j. reads F (r j) g) (λ j. reads F (s j) g) (λ j. same_reads (r j) (s j) g (e j)) (base n i) n

    same-widest : (i g n : ℕ) → largest_alike F u r i g n ≡ largest_alike F u s i g n
    unfolding largest_alike
    same-widest i g zero = e i
    same-widest i g (suc l) = rw (same_alike (span u l) i g, same-widest i g l) refl

    pub same_capped : (n i : ℕ) → normal_up_to F u r n i ≡ normal_up_to F u s n i
    unfolding normal_up_to
    same_capped n i = go (F.valid (r i)) refl (same_valid (r i) (s i) (e i))
      where
        go : (b : Bool) → F.valid (r i) ≡ b → F.valid (r i) ≡ F.valid (s i)
            → cond (F.valid (r i)) (largest_alike F u r i (gpi F (r i)) n) (r i)
            ≡ cond (F.valid (s i)) (largest_alike F u s i (gpi F (s i)) n) (s i)
        go true p q = rw (← q, p) (ap (λ w. largest_alike F u r i (F.low w) n) (e i) ∙ same-widest i (gpi F (s i)) n)
        go false p q = rw (← q, p) (cc (L.flat-invalid (r i) p, L.flat-invalid (s i) (sym q ∙ p), e i))

  -- ---- a word of the first levels reads as the word does

  module _ (u : ℕ) (u-pos : 0 < u) (r : ℕ → ℕ) where
    flat-widest : (i g n : ℕ) → n ≤ 3 → F.known g ≡ true → F.flat (largest_alike F u r i g n) ≡ F.flat (r i)
    unfolding largest_alike
    flat-widest i g zero b k = L.flat-flat (r i)
    flat-widest i g (suc l) b k = go (alike F r (span u l) i g) refl (flat-widest i g l (omega arith) k)
      where
        go : (t : Bool) → alike F r (span u l) i g ≡ t → F.flat (largest_alike F u r i g l) ≡ F.flat (r i)
            → F.flat (cond (alike F r (span u l) i g) (F.contig l g) (largest_alike F u r i g l)) ≡ F.flat (r i)
        go true p ih = rw p (L.flat-contig l g b k ∙ sym (alike-flat F r (span u l) i g p i (in_self (span u l) i (span_pos u l u-pos))))
        go false p ih = rw p ih

    pub flat-capped : (n : ℕ) → n ≤ 3 → (i : ℕ) → F.flat (normal_up_to F u r n i) ≡ F.flat (r i)
    unfolding normal_up_to
    flat-capped n b i = go (F.valid (r i)) refl
      where
        go : (t : Bool) → F.valid (r i) ≡ t → F.flat (cond (F.valid (r i)) (largest_alike F u r i (gpi F (r i)) n) (r i)) ≡ F.flat (r i)
        go true p = rw p (flat-widest i (gpi F (r i)) n b (L.known_low (r i) p))
        go false p = rw p refl

  -- ---- by index

  pub length-normal : (u : ℕ) (t : List ℕ) → length (normal F u t) ≡ length t
  unfolding normal
  length-normal u t = length-build (normal_word F u (at t)) 0 (length t)

  pub at-normal : (u : ℕ) (t : List ℕ) (i : ℕ) → i < length t → at (normal F u t) i ≡ normal_word F u (at t) i
  unfolding normal
  at-normal u t i b = rw (at-build, zero-add)

  -- ---- THE THEOREMS, with `normal-says` above

  -- The normal table is a function of `map flat` alone: tables that read alike have one normal table.
  pub same_normal : (u : ℕ) (s t : List ℕ) → map F.flat s ≡ map F.flat t → normal F u s ≡ normal F u t
  unfolding normal
  same_normal u s t e =
      rw (map-length F.flat s t e)
      (build-ext (normal_word F u (at s)) (normal_word F u (at t)) (same_capped u (at s) (at t) (map_at F.flat s t e) 3) 0 (length t))

  -- It reads as the table does, at every granule of every word.
  pub flat-normal : (u : ℕ) → 0 < u → (t : List ℕ) → map F.flat (normal F u t) ≡ map F.flat t
  flat-normal u h t =
      ext_get_or (F.flat 0) (map F.flat (normal F u t)) (map F.flat t)
      (simp (length-map, length-normal))
      (λ i b.
      get_or-map F.flat (normal F u t) i 0
      ∙ ap F.flat (at-normal u t i (simp (length-map, length-normal) at b))
      ∙ flat-capped u h (at t) 3 (omega arith) i
      ∙ sym (get_or-map F.flat t i 0))

  -- It is its own normal table.
  pub normal-normal : (u : ℕ) → 0 < u → (t : List ℕ) → normal F u (normal F u t) ≡ normal F u t
  normal-normal u h t = same_normal u (normal F u t) t (flat-normal u h t)

  -- There is no other: a table whose every word is normal, and which reads as t does, is the normal table of t.
  pub the_one : (u : ℕ) (s t : List ℕ) → map F.flat s ≡ map F.flat t → ((i : ℕ) → i < length s → at s i ≡ normal_word F u (at s) i)
      → s ≡ normal F u t
  the_one u s t e h =
      ext_get_or 0 s (normal F u s) (sym (length-normal u s)) (λ i b. h i b ∙ sym (at-normal u s i b))
      ∙ same_normal u s t e
