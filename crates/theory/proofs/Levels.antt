-- The levels of an index: the word of the first levels, by whether the largest_alike of them is alike; and which level a normal word has. Of
-- the crate `theory`.
use mathlib.Core.Path.{◌≡◌, refl, sym, ap, ◌∙◌}
use mathlib.Core.Bool.{Bool, true, false, cond}
use Prim.Native.Nat.{ℕ, zero, suc, ◌+◌, ◌-◌, ◌≤◌, ◌<◌}
use native.Mathlib.Decide.{ℕ_discrete}
use native.Mathlib.Omega.{arith}
use Rattle.theory.specs.Format.{Format, Laws, gpi}
use Rattle.theory.specs.Normal.{span, In, alike, largest_alike, normal_up_to, normal_word}
use Rattle.theory.proofs.Ranges.{span_pos, in_self, in_base, in_sym, in_le}
use Rattle.theory.proofs.Normal.{reads-valid, alike-reads, alike-flat}

module _ (F : Format) (L : Laws F) (u : ℕ) (u-pos : 0 < u) (r : ℕ → ℕ) where
  -- the test is one for the whole range
  alike-move : (n i k g : ℕ) → In n i k → alike F r n k g ≡ alike F r n i g
  unfolding alike
  alike-move n i k g h = rw (in_base n i k h) refl

  -- two words of it have one GPI
  alike-gpi : (n i g j k : ℕ) → alike F r n i g ≡ true → In n i j → In n i k → gpi F (r j) ≡ gpi F (r k)
  alike-gpi n i g j k e h h' = ap F.low (alike-flat F r n i g e j h ∙ sym (alike-flat F r n i g e k h'))

  in-here : (l i : ℕ) → In (span u l) i i
  in-here l i = in_self (span u l) i (span_pos u l u-pos)

  -- of one GPI: the word of the first levels is that contiguous word
  pub up_true : (l i k : ℕ) → alike F r (span u l) i (gpi F (r i)) ≡ true → In (span u l) i k
      → normal_up_to F u r (suc l) k ≡ F.contig l (gpi F (r i))
  unfolding normal_up_to largest_alike
  up_true l i k e h =
      let v : F.valid (r k) ≡ true = reads-valid F (r k) (gpi F (r i)) (alike-reads F r (span u l) i (gpi F (r i)) e k h) in
      let q : gpi F (r k) ≡ gpi F (r i) = alike-gpi (span u l) i (gpi F (r i)) k i e h (in-here l i) in
      rw (v, q, alike-move (span u l) i k (gpi F (r i)) h, e) refl

  -- else it is the word of the levels below
  pub up_false : (l i k : ℕ) → alike F r (span u l) i (gpi F (r i)) ≡ false → In (span u l) i k
      → normal_up_to F u r (suc l) k ≡ normal_up_to F u r l k
  unfolding normal_up_to largest_alike
  up_false l i k e h = go (alike F r (span u l) k (gpi F (r k))) refl
    where
      go : (b : Bool) → alike F r (span u l) k (gpi F (r k)) ≡ b
          → cond (F.valid (r k))
          (cond (alike F r (span u l) k (gpi F (r k))) (F.contig l (gpi F (r k))) (largest_alike F u r k (gpi F (r k)) l)) (r k)
          ≡ cond (F.valid (r k)) (largest_alike F u r k (gpi F (r k)) l) (r k)
      go false q = rw q refl
      go true q =
          let f : gpi F (r i) ≡ gpi F (r k)
          = alike-gpi (span u l) k (gpi F (r k)) i k q (in_sym (span u l) i k (span_pos u l u-pos) h) (in-here l k) in
          let a : alike F r (span u l) k (gpi F (r k)) ≡ alike F r (span u l) i (gpi F (r k)) = alike-move (span u l) i k (gpi F (r k)) h in
          cc

  -- of no level: the flat word
  pub normal_up_to-flat : (i : ℕ) → normal_up_to F u r zero i ≡ F.flat (r i)
  unfolding normal_up_to largest_alike
  normal_up_to-flat i = go (F.valid (r i)) refl
    where
      go : (b : Bool) → F.valid (r i) ≡ b → cond (F.valid (r i)) (F.flat (r i)) (r i) ≡ F.flat (r i)
      go true p = rw p refl
      go false p = rw p (sym (L.flat-invalid (r i) p))

  -- the range of level l around i is alike, and all of it has that word among the first n levels
  abbrev pub Ranged : ℕ → ℕ → ℕ → Type 0
  Ranged n i l =
      (l < n) × (alike F r (span u l) i (gpi F (r i)) ≡ true)
      × ((k : ℕ) → In (span u l) i k → normal_up_to F u r n k ≡ F.contig l (gpi F (r i)))

  -- so it is where the word of the first levels at i is contiguous
  pub normal_up_to-range : (n : ℕ) → n ≤ 3 → (i l : ℕ) → F.valid (r i) ≡ true → F.size (normal_up_to F u r n i) ≡ suc l
      → Ranged n i l
  normal_up_to-range zero b i l ok e =
      let z : F.size (normal_up_to F u r zero i) ≡ 0 = ap F.size (normal_up_to-flat i) ∙ L.size_of-flat (r i) in
      absurd (omega arith)
  normal_up_to-range (suc n) b i l ok e = go (alike F r (span u n) i (gpi F (r i))) refl (normal_up_to-range n (omega arith) i l ok)
    where
      go : (c : Bool) → alike F r (span u n) i (gpi F (r i)) ≡ c
          → (F.size (normal_up_to F u r n i) ≡ suc l → Ranged n i l)
          → Ranged (suc n) i l
      go true p ih =
          let s : F.size (normal_up_to F u r (suc n) i) ≡ suc n
          = ap F.size (up_true n i i p (in-here n i)) ∙ L.size_contig n (gpi F (r i)) (omega arith) (L.known_low (r i) ok) in
          let q : l ≡ n = omega arith in
          (omega arith, rw q p, λ k h. rw q (up_true n i k p (rw q at h)))
      go false p ih =
          let x : Ranged n i l
          = ih (ap F.size (sym (up_false n i i p (in-here n i))) ∙ e) in
          let q : (n - l) + l ≡ n = omega (arith, x.0) in
          (omega (arith, x.0), x.1, λ k h. up_false n i k p (rw q at (in_le u l (n - l) i k h)) ∙ x.2 k h)

  -- ---- THE THEOREMS

  largest : (n : ℕ) → n ≤ 3 → (i l : ℕ) → F.valid (r i) ≡ true → l < n → alike F r (span u l) i (gpi F (r i)) ≡ true
      → suc l ≤ F.size (normal_up_to F u r n i)
  largest zero b i l ok l< a = absurd (omega arith)
  largest (suc n) b i l ok l< a = go (alike F r (span u n) i (gpi F (r i))) refl (λ c. largest n (omega arith) i l ok c a)
    where
      go : (c : Bool) → alike F r (span u n) i (gpi F (r i)) ≡ c → (l < n → suc l ≤ F.size (normal_up_to F u r n i))
          → suc l ≤ F.size (normal_up_to F u r (suc n) i)
      go true p ih =
          rw (up_true n i i p (in-here n i), L.size_contig n (gpi F (r i)) (omega arith) (L.known_low (r i) ok)) (omega arith)
      go false p ih = rw (up_false n i i p (in-here n i)) (below (ℕ_discrete l n))
        where
          below : Dec (l ≡ n) → suc l ≤ F.size (normal_up_to F u r n i)
          below (yes q) =
              let z : alike F r (span u l) i (gpi F (r i)) ≡ false = rw q p in
              let z : ◌≡◌ {A = ℕ} 0 1 = cc in
              absurd (omega arith)
          below (no q) = ih (omega arith)

  -- A valid word's normal word takes the largest size that fits. It fits: the aligned range of its level is valid throughout and of the
  -- word's GPI.
  pub normal-fits : (i l : ℕ) → F.valid (r i) ≡ true → F.size (normal_word F u r i) ≡ suc l → alike F r (span u l) i (gpi F (r i)) ≡ true
  normal-fits i l ok e = (normal_up_to-range 3 (omega arith) i l ok e).1

  -- And no larger one does: where the aligned range of a level is so, the normal word is contiguous, and of that level at least.
  pub normal-largest : (i l : ℕ) → F.valid (r i) ≡ true → l < 3 → alike F r (span u l) i (gpi F (r i)) ≡ true
      → suc l ≤ F.size (normal_word F u r i)
  normal-largest i l ok l< a = largest 3 (omega arith) i l ok l< a
