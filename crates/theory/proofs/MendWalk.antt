-- The laws of mend's walk over stretches: how a routine's loop goes on, how routines compose, and that a walk over the whole table is a
-- mend. Of the crate `theory`.
use mathlib.Core.Path.{◌≡◌, refl, sym, ap, ◌∙◌}
use mathlib.Core.Bool.{Bool, true, false, ◌&&◌, not, cond, and-true, and-false}
use mathlib.Core.List.{List, [], ◌∷◌, ◌++◌, map, append-nil}
use Prim.Native.Nat.{ℕ, zero, suc, ◌+◌, ◌*◌, ◌≤◌, ◌<◌}
use native.Mathlib.Nat.{add-zero, add-suc, add_assoc}
use native.Mathlib.Decide.{dec_lt}
use native.Mathlib.Omega.{arith}
use native.Mathlib.Numerals.{add-one}
use borrow.Author.Tests.{le-ltb, lt-ltb, eq-eqb, ne_eqb}
use lib.Dec.{eqb, ltb}
use lib.ListN.{length, take, set, length-take, length-append}
use lib.Seq.{map-set_same, get_or-set_other, take-append-le, take_all, take-nil}
use Rattle.theory.specs.Format.{Format, Laws, gpi}
use Rattle.theory.specs.Normal.{at, span, base, In, alike, normal_up_to, normal_word}
use Rattle.theory.specs.Stores.{Store, apply}
use Rattle.theory.specs.Mend.{repairs, mending, mend, mend_count}
use Rattle.theory.specs.Inner.{Walk, walked, step, mend_walk, Goes, single}
use Rattle.theory.proofs.Lists.{map_at}
use Rattle.theory.proofs.Stores.{apply-append}
use Rattle.theory.proofs.Ranges.{base-of, in_of, span_pos}
use Rattle.theory.proofs.Normal.{same_capped, flat-capped}
use Rattle.theory.proofs.Levels.{up_true, up_false, normal_up_to-flat}
use Rattle.theory.proofs.Mend.{repair, repairs-suc}

-- ---- the walk alone

-- one stretch after another
mend_walk-add : (k : ℕ) (h : ℕ → ℕ) (a m n : ℕ) (s : Walk) → mend_walk k h (a + m) n (mend_walk k h a m s) ≡ mend_walk k h a (m + n) s
unfolding mend_walk
mend_walk-add k h a m zero s = rw add-zero refl
mend_walk-add k h a m (suc n) s = rw (add-suc m n, mend_walk-add k h a m n s, add_assoc a m n) refl

-- only the words of the stretch count
mend_walk-ext : (k : ℕ) (g h : ℕ → ℕ) (a m : ℕ) → ((i : ℕ) → a ≤ i → i < a + m → g i ≡ h i) → (s : Walk)
    → mend_walk k g a m s ≡ mend_walk k h a m s
unfolding mend_walk
mend_walk-ext k g h a zero e s = refl
mend_walk-ext k g h a (suc m) e s = rw (mend_walk-ext k g h a m (λ i lo hi. e i lo (omega arith)) s, e (a + m) (omega arith) (omega arith))
    refl

-- no store is left
pub mend_walk-full : (k : ℕ) (h : ℕ → ℕ) (a m : ℕ) (s : Walk) → k ≤ s.made → mend_walk k h a m s ≡ s
unfolding mend_walk
mend_walk-full k h a zero s f = refl
mend_walk-full k h a (suc m) s f = rw (mend_walk-full k h a m s f, le-ltb s.made k f) refl

-- a turn makes its store or doesn't
module _ (k : ℕ) (h : ℕ → ℕ) (i : ℕ) (s : Walk) (P : List ℕ → Type 0) where
  step-table : P (set s.table i (h i)) → P s.table → P (step k h i s).table
  step-table x y = go (ltb s.made k && not (eqb (at s.table i) (h i)))
    where
      go : (b : Bool) → P (cond {A = Walk} b (walked (set s.table i (h i)) (suc s.made)) s).table
      go true = x
      go false = y

mend_walk-ahead : (k : ℕ) (h : ℕ → ℕ) (a m : ℕ) (s : Walk) (j : ℕ) → a + m ≤ j → at (mend_walk k h a m s).table j ≡ at s.table j
unfolding mend_walk
mend_walk-ahead k h a zero s j b = refl
mend_walk-ahead k h a (suc m) s j b =
    let ih : at (mend_walk k h a m s).table j ≡ at s.table j = mend_walk-ahead k h a m s j (omega arith) in
    step-table k h (a + m) (mend_walk k h a m s) (λ (l : List ℕ). at l j ≡ at s.table j)
    (get_or-set_other (mend_walk k h a m s).table (a + m) j (h (a + m)) 0 (λ q. omega arith) ∙ ih) ih

-- what f says of the words stays, where it says the same of the words walked to
map-mend_walk : (f : ℕ → ℕ) (k : ℕ) (h : ℕ → ℕ) (a m : ℕ) (s : Walk) → ((i : ℕ) → f (h i) ≡ f (at s.table i))
    → map f (mend_walk k h a m s).table ≡ map f s.table
unfolding mend_walk
map-mend_walk f k h a zero s e = refl
map-mend_walk f k h a (suc m) s e =
    let ih : map f (mend_walk k h a m s).table ≡ map f s.table = map-mend_walk f k h a m s e in
    step-table k h (a + m) (mend_walk k h a m s) (λ (l : List ℕ). map f l ≡ map f s.table)
    (map-set_same f (mend_walk k h a m s).table (a + m) (h (a + m)) 0
    (e (a + m) ∙ sym (map_at f (mend_walk k h a m s).table s.table ih (a + m))) ∙ ih) ih

-- ---- a turn of a routine's loop

-- by what its tests say: the word is there already, or no store is left, or it is stored
module _ (k w i : ℕ) (t : List ℕ) (c : ℕ) where
  pub step_same : at t i ≡ w → walked t c ≡ step k (λ _. w) i (walked t c)
  step_same q = rw (eq-eqb (at t i) w q, and-false) refl

  pub step-full : k ≤ c → walked t c ≡ step k (λ _. w) i (walked t c)
  step-full f = rw (le-ltb c k f) refl

  pub step-store : c < k → (at t i ≡ w → ⊥) → walked (set t i w) (c + 1) ≡ step k (λ _. w) i (walked t c)
  step-store lt ne = rw (add-one c, lt-ltb c k lt, ne_eqb (at t i) w ne) refl

module _ (k : ℕ) (h : ℕ → ℕ) (a i : ℕ) (t₀ : List ℕ) (c₀ : ℕ) (t : List ℕ) (c : ℕ) (e : Goes k h a i t₀ c₀ t c) where
  pub goes_on : (w : ℕ) → w ≡ h (a + i) → (t₂ : List ℕ) (c₂ : ℕ) → walked t₂ c₂ ≡ step k (λ _. w) (a + i) (walked t c)
      → Goes k h a (i + 1) t₀ c₀ t₂ c₂
  unfolding mend_walk
  goes_on w q t₂ c₂ s = s ∙ rw (add-one i, ← e, q) refl

  -- the words ahead are as they were
  pub goes_ahead : (j : ℕ) → a + i ≤ j → at t j ≡ at t₀ j
  goes_ahead j b = ap (λ (s : Walk). at s.table j) e ∙ mend_walk-ahead k h a i (walked t₀ c₀) j b

  pub goes_end : (n : ℕ) → i ≤ n → n ≤ i → Goes k h a n t₀ c₀ t c
  goes_end n b b' = let q : i ≡ n = omega arith in rw q at e

-- ---- the walk towards the words of the first levels

module _ (F : Format) (L : Laws F) (u : ℕ) (u-pos : 0 < u) where
  -- one routine after another: each walks towards the words of the table that it finds
  pub after : (k l a m n : ℕ) (t₀ : List ℕ) (c₀ : ℕ) (t₁ : List ℕ) (c₁ : ℕ) (t₂ : List ℕ) (c₂ : ℕ) → l < 3
      → Goes k (normal_up_to F u (at t₀) (suc l)) a m t₀ c₀ t₁ c₁ → Goes k (normal_up_to F u (at t₁) (suc l)) (a + m) n t₁ c₁ t₂ c₂
      → Goes k (normal_up_to F u (at t₀) (suc l)) a (m + n) t₀ c₀ t₂ c₂
  after k l a m n t₀ c₀ t₁ c₁ t₂ c₂ b p q =
      let h : ℕ → ℕ = normal_up_to F u (at t₀) (suc l) in
      let e : map F.flat t₁ ≡ map F.flat t₀
      = ap (λ (s : Walk). map F.flat s.table) p
      ∙ map-mend_walk F.flat k h a m (walked t₀ c₀) (flat-capped F L u u-pos (at t₀) (suc l) b) in
      q
      ∙ mend_walk-ext k (normal_up_to F u (at t₁) (suc l)) h (a + m) n
      (λ i lo hi. same_capped F L u (at t₁) (at t₀) (map_at F.flat t₁ t₀ e) (suc l) i) (walked t₁ c₁)
      ∙ ap (mend_walk k h (a + m) n) p
      ∙ mend_walk-add k h a m n (walked t₀ c₀)

  -- the words of an aligned range of a level, by whether it is of one GPI
  module _ (r : ℕ → ℕ) (l a q : ℕ) (al : a ≡ q * span u l) where
    here : base (span u l) a ≡ a
    here = let p : 0 < span u l = span_pos u l u-pos in base-of (span u l) q a (omega arith) (omega arith) ∙ sym al

    in-here : (i : ℕ) → a ≤ i → i < a + span u l → In (span u l) a i
    in-here i lo hi = in_of (span u l) a i (omega (arith, here)) (omega (arith, here))

    single-alike : single F r a (span u l) ≡ alike F r (span u l) a (gpi F (r a))
    unfolding single alike
    single-alike = rw here refl

    pub words_single : single F r a (span u l) ≡ true → (i : ℕ) → a ≤ i → i < a + span u l
        → normal_up_to F u r (suc l) i ≡ F.contig l (gpi F (r a))
    words_single s i lo hi = up_true F L u u-pos r l a i (sym single-alike ∙ s) (in-here i lo hi)

    pub words_mixed : single F r a (span u l) ≡ false → (i : ℕ) → a ≤ i → i < a + span u l
        → normal_up_to F u r (suc l) i ≡ normal_up_to F u r l i
    words_mixed s i lo hi = up_false F L u u-pos r l a i (sym single-alike ∙ s) (in-here i lo hi)

  -- the walk over it; and one over words of no level
  module _ (k l a : ℕ) (t : List ℕ) (c : ℕ) (t₂ : List ℕ) (c₂ : ℕ) (q : ℕ) (al : a ≡ q * span u l) where
    pub by_single : single F (at t) a (span u l) ≡ true → Goes k (λ _. F.contig l (gpi F (at t a))) a (span u l) t c t₂ c₂
        → Goes k (normal_up_to F u (at t) (suc l)) a (span u l) t c t₂ c₂
    by_single s g =
        g ∙ mend_walk-ext k (λ _. F.contig l (gpi F (at t a))) (normal_up_to F u (at t) (suc l)) a (span u l)
        (λ i lo hi. sym (words_single (at t) l a q al s i lo hi)) (walked t c)

    pub by_mixed : single F (at t) a (span u l) ≡ false → Goes k (normal_up_to F u (at t) l) a (span u l) t c t₂ c₂
        → Goes k (normal_up_to F u (at t) (suc l)) a (span u l) t c t₂ c₂
    by_mixed s g =
        g ∙ mend_walk-ext k (normal_up_to F u (at t) l) (normal_up_to F u (at t) (suc l)) a (span u l)
        (λ i lo hi. sym (words_mixed (at t) l a q al s i lo hi)) (walked t c)

  pub by_flats : (k a m : ℕ) (t : List ℕ) (c : ℕ) (t₂ : List ℕ) (c₂ : ℕ) → Goes k (λ i. F.flat (at t i)) a m t c t₂ c₂
      → Goes k (normal_up_to F u (at t) 0) a m t c t₂ c₂
  by_flats k a m t c t₂ c₂ g =
      g ∙ mend_walk-ext k (λ i. F.flat (at t i)) (normal_up_to F u (at t) 0) a m (λ i lo hi. sym (normal_up_to-flat F L u u-pos (at t) i))
      (walked t c)

-- ---- all of it is a mend

-- the first k of some stores made, and counted
abbrev first : ℕ → List ℕ → List Store → Walk
first k t ss = walked (apply t (take k ss)) (length (take k ss))

-- one store more
first_snoc : (k : ℕ) (t : List ℕ) (ss : List Store) (s : Store)
    → cond {A = Walk} (ltb (length (take k ss)) k)
    (walked (set (apply t (take k ss)) s.index s.word) (suc (length (take k ss)))) (first k t ss)
    ≡ first k t (ss ++ s ∷ [])
unfolding apply
first_snoc k t ss s = go (dec_lt (length ss) k)
  where
    go : Dec (length ss < k)
        → cond {A = Walk} (ltb (length (take k ss)) k)
        (walked (set (apply t (take k ss)) s.index s.word) (suc (length (take k ss)))) (first k t ss)
        ≡ first k t (ss ++ s ∷ [])
    go (yes b) =
        rw (
          take_all k ss (omega arith),
          take_all k (ss ++ s ∷ []) (simp length-append (omega arith)),
          lt-ltb (length ss) k b,
          apply-append t ss (s ∷ []),
          length-append ss (s ∷ []),
          add-one,
        ) refl
    go (no b) =
        rw (take-append-le k ss (s ∷ []) (omega arith), le-ltb (length (take k ss)) k (omega (arith, length-take k ss))) refl

-- the walk makes the first k of the stores of the words that differ
mend_walk-repairs : (k : ℕ) (h : ℕ → ℕ) (t : List ℕ) (m : ℕ) → mend_walk k h 0 m (walked t 0) ≡ first k t (repairs (at t) h 0 m)
unfolding mend_walk repairs apply
mend_walk-repairs k h t zero = rw (take-nil k) refl
mend_walk-repairs k h t (suc m) =
    rw (repairs-suc (at t) h 0 m, mend_walk-ahead k h 0 m (walked t 0) (0 + m) (omega arith), mend_walk-repairs k h t m)
    (go (eqb (at t (0 + m)) (h (0 + m))))
  where
    ss : List Store
    ss = repairs (at t) h 0 m

    go : (b : Bool)
        → cond {A = Walk} (ltb (length (take k ss)) k && not b)
        (walked (set (apply t (take k ss)) (0 + m) (h (0 + m))) (suc (length (take k ss)))) (first k t ss)
        ≡ first k t (ss ++ cond b [] (repair h (0 + m) ∷ []))
    go true = rw (and-false, append-nil) refl
    go false = rw and-true (first_snoc k t (repairs (at t) h 0 m) (repair h (0 + m)))

-- A walk over the whole table towards its normal words is the mend of document 01, in the table that it leaves and in its count.
pub mended : (F : Format) (u k : ℕ) (t : List ℕ) (t₂ : List ℕ) (c₂ : ℕ) → Goes k (normal_word F u (at t)) 0 (length t) t 0 t₂ c₂
    → (t₂ ≡ mend F u k t) × (c₂ ≡ mend_count F u k t)
unfolding mend mend_count mending
mended F u k t t₂ c₂ g =
    let e : walked t₂ c₂ ≡ walked (apply t (mending F u k t)) (length (mending F u k t))
    = g ∙ mend_walk-repairs k (normal_word F u (at t)) t (length t) in
    (ap (λ (s : Walk). s.table) e, ap (λ (s : Walk). s.made) e)
