-- What a shatter stores, and what it leaves at each index. Of the crate `theory`.
use mathlib.Core.Path.{◌≡◌, refl, sym, ap, ◌∙◌}
use mathlib.Core.Bool.{true}
use mathlib.Core.List.{List, ◌++◌, append-nil}
use Prim.Native.Nat.{ℕ, zero, suc, ◌+◌, ◌-◌, ◌*◌, ◌≤◌, ◌<◌}
use native.Mathlib.Decide.{dec_lt}
use native.Mathlib.Omega.{arith}
use lib.ListN.{length}
use Rattle.theory.specs.Format.{Format, Laws}
use Rattle.theory.specs.Normal.{at, span, base, In}
use Rattle.theory.specs.Stores.{Store, apply, fill, Each}
use Rattle.theory.specs.Events.{stores}
use Rattle.theory.specs.Set.{fill_event, shatter}
use Rattle.theory.proofs.Stores.{each_append, each_fill, each_of, apply-append, length-apply, apply-out, fill-in, fill-out}
use Rattle.theory.proofs.Events.{stores-append}
use Rattle.theory.proofs.Ranges.{span_pos, base-lo, base-hi, in_of, in_dec, in_self, in_sym, in_trans, in_up, in_le}

pub stores-fill : (a n w : ℕ) → stores (fill_event a n w) ≡ fill a n w
unfolding stores fill_event fill
stores-fill a zero w = refl
stores-fill a (suc n) w = append-nil _

-- a contiguous word that is written, and sixteen granules, are flat words of g
pub flat-rep : (F : Format) → Laws F → (g : ℕ) → F.known g ≡ true → F.flat (F.rep g) ≡ F.rep g
flat-rep F L g known = cc (L.flat-contig 0 g (omega arith) known, L.flat-flat (F.contig 0 g))

module _ (F : Format) (u g i : ℕ) where
  -- the three parts of a level: before, the part that holds i, after
  abbrev before : ℕ → List Store
  before l = fill (base (16 * span u l) i) (base (span u l) i - base (16 * span u l) i) (F.contig l g)

  abbrev after : ℕ → List Store
  after l = fill (base (span u l) i + span u l) (base (16 * span u l) i + 16 * span u l - (base (span u l) i + span u l)) (F.contig l g)

  stores-least : stores (shatter F u g i zero) ≡ fill (base u i) u (F.rep g)
  unfolding shatter
  stores-least = stores-fill (base u i) u (F.rep g)

  stores-parts : (l : ℕ) → stores (shatter F u g i (suc l)) ≡ before l ++ stores (shatter F u g i l) ++ after l
  unfolding shatter span
  stores-parts l = simp (stores-append, stores-fill)

  -- ---- each store is of the range, and reads g sixteen times

  -- what a shatter of level l stores
  abbrev pub Shatters : ℕ → Store → Type 0
  Shatters l s = (base (span u l) i ≤ s.index) × (s.index < base (span u l) i + span u l) × (F.flat s.word ≡ F.rep g)

  pub shatter-each : Laws F → F.known g ≡ true → (l : ℕ) → l < 3 → Each (Shatters l) (stores (shatter F u g i l))
  unfolding span
  shatter-each L known zero b = rw stores-least (each_fill _ (base u i) u (F.rep g) (λ j lo hi. (lo, hi, flat-rep F L g known)))
  shatter-each L known (suc l) b =
      let n : ℕ = span u l in
      let lo : base (16 * n) i ≤ base n i = base-lo n i in
      let hi : base n i + n ≤ base (16 * n) i + 16 * n = base-hi n i in
      let e : F.flat (F.contig l g) ≡ F.rep g = L.flat-contig l g (omega arith) known in
      rw (stores-parts l)
      (each_append _ (before l ++ stores (shatter F u g i l)) (after l)
      (each_append _ (before l) (stores (shatter F u g i l))
      (each_fill _ (base (16 * n) i) (base n i - base (16 * n) i) (F.contig l g) (λ j p q. (omega arith, omega arith, e)))
      (each_of (Shatters l) _ (λ s h. (omega (arith, h.0), omega (arith, h.1), h.2)) (stores (shatter F u g i l))
      (shatter-each L known l (omega arith))))
      (each_fill _ (base n i + n) (base (16 * n) i + 16 * n - (base n i + n)) (F.contig l g) (λ j p q. (omega arith, omega arith, e))))

  -- ---- what it leaves

  apply-parts : (t : List ℕ) (l : ℕ)
      → apply t (stores (shatter F u g i (suc l))) ≡ apply (apply (apply t (before l)) (stores (shatter F u g i l))) (after l)
  apply-parts t l = rw (stores-parts l, apply-append, apply-append) refl

  -- in the part that holds i: what the next shatter leaves there
  part_in : (t : List ℕ) (l k : ℕ) → In (span u l) i k
      → at (apply t (stores (shatter F u g i (suc l)))) k ≡ at (apply (apply t (before l)) (stores (shatter F u g i l))) k
  part_in t l k h =
      rw (apply-parts t l)
      (fill-out (apply (apply t (before l)) (stores (shatter F u g i l))) (base (span u l) i + span u l)
      (base (16 * span u l) i + 16 * span u l - (base (span u l) i + span u l)) (F.contig l g) k (λ p q. omega arith))

  -- at i itself: sixteen granules
  pub shatter-at : 0 < u → (t : List ℕ) (l : ℕ) → i < length t → at (apply t (stores (shatter F u g i l))) i ≡ F.rep g
  unfolding span
  shatter-at u-pos t zero b =
      let h : In u i i = in_self u i u-pos in
      rw stores-least (fill-in t (base u i) u (F.rep g) i h.from h.to b)
  shatter-at u-pos t (suc l) b =
      part_in t l i (in_self (span u l) i (span_pos u l u-pos)) ∙ shatter-at u-pos (apply t (before l)) l (rw (length-apply t (before l)) b)

  module _ (L : Laws F) (known : F.known g ≡ true) where
    -- all around it: the level's contiguous word
    part_out : (t : List ℕ) (l k : ℕ) → l < 3 → k < length t → In (span u (suc l)) i k → (In (span u l) i k → ⊥)
        → at (apply t (stores (shatter F u g i (suc l)))) k ≡ F.contig l g
    unfolding span
    part_out t l k c b h o = rw (apply-parts t l) (go (dec_lt k (base (span u l) i)) (dec_lt k (base (span u l) i + span u l)))
      where
        n : ℕ
        n = span u l

        t₁ : List ℕ
        t₁ = apply t (before l)

        t₂ : List ℕ
        t₂ = apply t₁ (stores (shatter F u g i l))

        len : length t₂ ≡ length t
        len = length-apply t₁ (stores (shatter F u g i l)) ∙ length-apply t (before l)

        go : Dec (k < base (span u l) i) → Dec (k < base (span u l) i + span u l) → at (apply t₂ (after l)) k ≡ F.contig l g
        go (yes x) y =
            fill-out t₂ (base n i + n) (base (16 * n) i + 16 * n - (base n i + n)) (F.contig l g) k (λ p q. omega arith)
            ∙ apply-out t₁ (base n i) n (stores (shatter F u g i l))
            (each_of (Shatters l) _ (λ s q. (q.0, q.1)) (stores (shatter F u g i l)) (shatter-each L known l c)) k (λ p q. omega arith)
            ∙ fill-in t (base (16 * n) i) (base n i - base (16 * n) i) (F.contig l g) k h.from (omega arith) b
        go (no x) (yes y) = absurd (o (in_of n i k (omega arith) y))
        go (no x) (no y) =
            fill-in t₂ (base n i + n) (base (16 * n) i + 16 * n - (base n i + n)) (F.contig l g) k (omega arith) (omega (arith, h.to))
            (omega (arith, len))

    -- where the word left at k is contiguous, all of its range has that word
    pub shatter-range : 0 < u → (n : ℕ) → n < 3 → (t : List ℕ) (k l : ℕ) → In (span u n) i k → ((j : ℕ) → In (span u n) i j → j < length t)
        → F.size (at (apply t (stores (shatter F u g i n))) k) ≡ suc l
        → (l < n) × ((j : ℕ) → In (span u l) k j → at (apply t (stores (shatter F u g i n))) j ≡ F.contig l g)
    shatter-range u-pos zero c t k l h inside e =
        let h₀ : In u i k = unfold span in h in
        let x : at (apply t (stores (shatter F u g i zero))) k ≡ F.rep g
        = rw stores-least (fill-in t (base u i) u (F.rep g) k h₀.from h₀.to (inside k h)) in
        let z : F.size (at (apply t (stores (shatter F u g i zero))) k) ≡ 0
        = ap F.size (x ∙ sym (flat-rep F L g known)) ∙ L.size_of-flat (F.rep g) in
        absurd (omega arith)
    shatter-range u-pos (suc n) c t k l h inside e =
        go (in_dec (span u n) i k) (shatter-range u-pos n (omega arith) (apply t (before n)) k l)
      where
        pos : (m : ℕ) → 0 < span u m
        pos m = span_pos u m u-pos

        go : Dec (In (span u n) i k)
            → (In (span u n) i k → ((j : ℕ) → In (span u n) i j → j < length (apply t (before n)))
            → F.size (at (apply (apply t (before n)) (stores (shatter F u g i n))) k) ≡ suc l
            → (l < n) × ((j : ℕ) → In (span u l) k j → at (apply (apply t (before n)) (stores (shatter F u g i n))) j ≡ F.contig l g))
            → (l < suc n) × ((j : ℕ) → In (span u l) k j → at (apply t (stores (shatter F u g i (suc n)))) j ≡ F.contig l g)
        go (yes y) ih =
            let x : (l < n) × ((j : ℕ) → In (span u l) k j → at (apply (apply t (before n)) (stores (shatter F u g i n))) j ≡ F.contig l g)
            = ih y (λ j p. rw (length-apply t (before n)) (inside j (in_up u n i j p))) (ap F.size (sym (part_in t n k y)) ∙ e) in
            let q : (n - l) + l ≡ n = omega (arith, x.0) in
            (omega (arith, x.0), λ j p. part_in t n j (in_trans (span u n) i k j y (rw q at (in_le u l (n - l) k j p))) ∙ x.1 j p)
        go (no y) ih =
            let x : at (apply t (stores (shatter F u g i (suc n)))) k ≡ F.contig n g = part_out t n k (omega arith) (inside k h) h y in
            let s : suc n ≡ suc l = sym (ap F.size x ∙ L.size_contig n g (omega arith) known) ∙ e in
            let q : l ≡ n = omega arith in (
              omega arith,
              λ j p.
                  let p' : In (span u n) k j = rw q at p in
                  let a : In (span u (suc n)) i j = in_trans (span u (suc n)) i k j h (in_up u n k j p') in
                  let o : In (span u n) i j → ⊥ = λ v. y (in_trans (span u n) i j k v (in_sym (span u n) k j (pos n) p')) in
                  rw q (part_out t n j (omega arith) (inside j a) a o),
            )
