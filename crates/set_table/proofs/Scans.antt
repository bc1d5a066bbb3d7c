-- The scans as the code goes, in the crate `set_table`: a word at a time, a size at a time.
use mathlib.Core.Path.{◌≡◌, refl, sym, ap, ap₂, ◌∙◌}
use mathlib.Core.Bool.{Bool, true, false, cond}
use mathlib.Core.List.{List, [], ◌∷◌}
use Prim.Native.Nat.{ℕ, zero, suc, ◌+◌, ◌-◌, ◌≤◌, ◌<◌, ◌^◌}
use native.Mathlib.Numerals.{add-one}
use native.Mathlib.Omega.{arith}
use lib.ListN.{length, get_or, take, drop, length-take, length-drop}
use Rattle.std.specs.Prelude.{Option, None, Some, Result, Ok, Err, ok_or}
use Rattle.std.proofs.lemmas.List.{get_or-take, get_or-drop}
use Rattle.gpi.specs.declared.Gpi.{Gpi}
use Rattle.gpi.specs.declared.Size.{Size}
use Rattle.gpi.specs.declared.Size.TheVariants.{MB2, MB32, MB512}
use Rattle.gpi.specs.Gpi.{num}
use Rattle.theory.specs.Format.{Format, reads}
use Rattle.theory.specs.Normal.{at, base, span}
use Rattle.theory.specs.Set.{scan, on_scan, climb}
use Rattle.l1.specs.L1.{match_at}
use Rattle.l1.specs.Arm.{arm, level_of}
use Rattle.l1.proofs.Arm.{match_is}
use Rattle.set_table.specs.Inner.{leveled}

-- ---- the words of a range

-- on where the word at k is the same
abbrev pub next : ℕ → Option Bool → Result Bool ℕ → Result Bool ℕ
next k (Some true) s = s
next k (Some false) s = Ok false
next k None s = Err k

-- a scan of n words from k, by the word at k
pub scan-at : (r : ℕ → ℕ) (g : Gpi) (k n : ℕ) → 0 < n → r k < 2 ^ 64 → (m : Option Bool) → m ≡ match_at (r k) g
    → scan arm r (num g) k n ≡ next k m (scan arm r (num g) (k + 1) (n - 1))
unfolding scan
scan-at r g k zero h f m e = absurd (omega arith)
scan-at r g k (suc n) h f m e =
    let p : suc n - 1 ≡ n = omega arith in
    go (arm.valid (r k)) (reads arm (r k) (num g)) (scan arm r (num g) (suc k) n)
    ∙ ap₂ (next k) (sym (e ∙ match_is (r k) g f)) (ap₂ (λ (a b : ℕ). scan arm r (num g) a b) (sym (add-one k)) (sym p))
  where
    go : (v x : Bool) (s : Result Bool ℕ) → cond v (cond x s (Ok false)) (Err k) ≡ next k (cond v (cond x (Some true) (Some false)) None) s
    go true true s = refl
    go true false s = refl
    go false x s = refl

pub scan-end : (r : ℕ → ℕ) (g k n : ℕ) → n ≤ 0 → scan arm r g k n ≡ Ok true
unfolding scan
scan-end r g k zero h = refl
scan-end r g k (suc n) h = absurd (omega arith)

-- what `ok_or` makes of the word
asked : (m : Option Bool) (k : ℕ) {b : Bool} → Ok b ≡ ok_or m k → m ≡ Some b
asked (Some x) k o = cc
asked None k o = cc

-- the slice of the n words from a, and how far the scan has come in it: what is left from its word i on says the same as the whole
module _ (t : List ℕ) (g : Gpi) (a n : ℕ) (inside : a + n ≤ length t) (i : ℕ)
    (whole : scan arm (at t) (num g) a n ≡ scan arm (at t) (num g) (a + i) (n - i)) where
  abbrev words : List ℕ
  words = take (a + n - a) (drop a t)

  words-length : length words ≡ n
  words-length = simp (length-take, length-drop) (omega arith)

  pub scan_ended : length words ≤ i → Ok true ≡ scan arm (at t) (num g) a n
  scan_ended h = sym (whole ∙ scan-end (at t) (num g) (a + i) (n - i) (omega (arith, words-length)))

  -- by what is met at word i
  module _ (h : i < length words) (fits : (k : ℕ) → at t k < 2 ^ 64) (m : Option Bool) (e : m ≡ match_at (at words i) g) where
    met : scan arm (at t) (num g) a n ≡ next (a + i) m (scan arm (at t) (num g) (a + (i + 1)) (n - (i + 1)))
    met =
        let l : i < n = omega (arith, words-length) in
        let x : at words i ≡ at t (a + i) = get_or-take (a + n - a) (drop a t) i 0 (omega arith) ∙ get_or-drop a t i 0 in
        let p : n - (i + 1) ≡ n - i - 1 = omega arith in
        let q : a + (i + 1) ≡ a + i + 1 = omega arith in
        rw (p, q) (whole ∙ scan-at (at t) g (a + i) (n - i) (omega arith) (fits (a + i)) m (rw x at e))

    pub scan_on : {b : Bool} → Ok b ≡ ok_or m (a + i) → b ≡ true
        → scan arm (at t) (num g) a n ≡ scan arm (at t) (num g) (a + (i + 1)) (n - (i + 1))
    scan_on o y = met ∙ ap (λ (v : Option Bool). next (a + i) v (scan arm (at t) (num g) (a + (i + 1)) (n - (i + 1)))) (asked m (a + i) o ∙ ap Some y)

    pub scan_differs : {b : Bool} → Ok b ≡ ok_or m (a + i) → b ≡ false → Ok false ≡ scan arm (at t) (num g) a n
    scan_differs o y = sym (met ∙ ap (λ (v : Option Bool). next (a + i) v (scan arm (at t) (num g) (a + (i + 1)) (n - (i + 1)))) (asked m (a + i) o ∙ ap Some y))

    pub scan_invalid : {k : ℕ} → Err k ≡ ok_or m (a + i) → Err k ≡ scan arm (at t) (num g) a n
    scan_invalid {k} o = sym (met ∙ go m o)
      where
        go : (m : Option Bool) → Err k ≡ ok_or m (a + i) → next (a + i) m (scan arm (at t) (num g) (a + (i + 1)) (n - (i + 1))) ≡ Err k
        go (Some b) o = cc
        go None o = sym o

-- ---- the sizes

-- the sizes as the code has them, each at its level
pub sized : (i : ℕ) (s : Size) → i < 3 → level_of (get_or (MB2 ∷ MB32 ∷ MB512 ∷ []) i s) ≡ i
sized zero s h = refl
sized (suc zero) s h = refl
sized (suc (suc zero)) s h = refl
sized (suc (suc (suc i))) s h = absurd (omega arith)

module _ (F : Format) (u : ℕ) (r : ℕ → ℕ) (g x : ℕ) where
  -- a climb of n levels from l, by the scan of level l, which has m words
  pub climb-at : (l n m : ℕ) (best : Result (Option ℕ) ℕ) (s : Result Bool ℕ) → 0 < n → m ≡ span u l → s ≡ scan F r g (base m x) m
      → climb F u r g x l best n ≡ on_scan s (climb F u r g x (l + 1) (Ok (Some l)) (n - 1)) best
  unfolding climb
  climb-at l zero m best s h e q = absurd (omega arith)
  climb-at l (suc n) m best s h e q =
      let p : suc n - 1 ≡ n = omega arith in
      rw (q, e, add-one l, p) refl

  pub climb-end : (l n : ℕ) (best : Result (Option ℕ) ℕ) → n ≤ 0 → climb F u r g x l best n ≡ best
  unfolding climb
  climb-end l zero best h = refl
  climb-end l (suc n) best h = absurd (omega arith)

-- how far the climb has come: the sizes from the i-th on come to the same as all of them
module _ (t : List ℕ) (g : Gpi) (x u i : ℕ) (best : Option Size)
    (whole : climb arm u (at t) (num g) x 0 (Ok None) 3 ≡ climb arm u (at t) (num g) x i (leveled (Ok best)) (3 - i)) where
  pub climb_ended : 3 ≤ i → leveled (Ok best) ≡ climb arm u (at t) (num g) x 0 (Ok None) 3
  climb_ended h = sym (whole ∙ climb-end arm u (at t) (num g) x i (3 - i) (leveled (Ok best)) (omega arith))

  -- by what the scan of the size's n words comes to
  module _ (s : Size) (l : level_of s ≡ i) (h : i < 3) {n : ℕ} (e : n ≡ span u (level_of s)) where
    met_size : (y : Result Bool ℕ) → y ≡ scan arm (at t) (num g) (base n x) n
        → climb arm u (at t) (num g) x 0 (Ok None) 3
        ≡ on_scan y (climb arm u (at t) (num g) x (i + 1) (leveled (Ok (Some s))) (3 - (i + 1))) (leveled (Ok best))
    met_size y q =
        let p : 3 - (i + 1) ≡ 3 - i - 1 = omega arith in
        rw (l, p) (whole ∙ climb-at arm u (at t) (num g) x i (3 - i) n (leveled (Ok best)) y (omega arith) (rw l at e) q)

    pub climb_on : {b : Bool} → Ok b ≡ scan arm (at t) (num g) (base n x) n → b ≡ true
        → climb arm u (at t) (num g) x 0 (Ok None) 3 ≡ climb arm u (at t) (num g) x (i + 1) (leveled (Ok (Some s))) (3 - (i + 1))
    climb_on q y = met_size (Ok true) (rw y at q)

    pub climb_differs : {b : Bool} → Ok b ≡ scan arm (at t) (num g) (base n x) n → b ≡ false
        → leveled (Ok best) ≡ climb arm u (at t) (num g) x 0 (Ok None) 3
    climb_differs q y = sym (met_size (Ok false) (rw y at q))

    pub climb_invalid : {k : ℕ} → Err k ≡ scan arm (at t) (num g) (base n x) n → Err k ≡ climb arm u (at t) (num g) x 0 (Ok None) 3
    climb_invalid {k} q = sym (met_size (Err k) q)
