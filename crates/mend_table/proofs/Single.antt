-- Crate mend_table. A range of one GPI, by the tests of `one_gpi`: the lowest word's granules are one GPI sixteen times, and every word's
-- granules are those.
use mathlib.Core.Path.{◌≡◌, refl, sym, ap, ◌∙◌}
use mathlib.Core.Bool.{Bool, true, false, ◌&&◌, ◌||◌, and-false}
use Prim.Native.Nat.{ℕ, zero, suc, ◌<◌}
use native.Mathlib.Omega.{arith}
use borrow.Author.Tests.{eqb-true, eq-eqb, ne_eqb}
use lib.Dec.{eqb}
use Rattle.theory.specs.Format.{Format, Laws, gpi, reads}
use Rattle.theory.specs.Normal.{every}
use Rattle.theory.specs.Inner.{single}
use Rattle.theory.proofs.Lists.{every-at, every-ext}
use Rattle.theory.proofs.Normal.{reads-valid}

module _ (F : Format) (L : Laws F) (r : ℕ → ℕ) (a n f : ℕ) (e : f ≡ F.flat (r a)) where
  -- the lowest word is a GPI sixteen times: then words with its granules are valid
  module _ (k : F.known (F.low f) ≡ true) (q : f ≡ F.rep (F.low f)) where
    valid : F.valid f ≡ true
    valid =
        ap F.valid (q ∙ sym (L.flat-contig 0 (F.low f) (omega arith) k))
        ∙ L.valid_flat (F.contig 0 (F.low f))
        ∙ L.size_valid (F.contig 0 (F.low f)) 0 (L.size_contig 0 (F.low f) (omega arith) k)

    same_reads : (v : ℕ) (b c : Bool) → eqb v (r a) ≡ b → eqb (F.flat v) f ≡ c → (F.valid v && c) ≡ (b || c)
    same_reads v true c p p' =
        let s : F.flat v ≡ f = ap F.flat (eqb-true v (r a) p) ∙ sym e in
        rw (← p', eq-eqb (F.flat v) f s, ← (L.valid_flat v), s, valid) refl
    same_reads v false true p p' = rw (← (L.valid_flat v), eqb-true (F.flat v) f p', valid) refl
    same_reads v false false p p' = rw and-false refl

    pub scanned : {b : Bool} → b ≡ every (λ j. eqb (r j) (r a) || eqb (F.flat (r j)) f) a n → single F r a n ≡ b
    unfolding single reads
    scanned s =
        every-ext (λ j. F.valid (r j) && eqb (F.flat (r j)) (F.rep (gpi F (r a)))) (λ j. eqb (r j) (r a) || eqb (F.flat (r j)) f)
        (λ j. rw (sym (q ∙ ap (λ (x : ℕ). F.rep (F.low x)) e)) (same_reads (r j) (eqb (r j) (r a)) (eqb (F.flat (r j)) f) refl refl))
        a n
        ∙ sym s

  -- else there is no such range
  module _ (pos : 0 < n) where
    pub uneven : (f ≡ F.rep (F.low f) → ⊥) → single F r a n ≡ false
    unfolding single every reads
    uneven ne = go n pos
      where
        go : (m : ℕ) → 0 < m → every (λ j. F.valid (r j) && eqb (F.flat (r j)) (F.rep (gpi F (r a)))) a m ≡ false
        go zero b = absurd (omega arith)
        go (suc m) b =
            rw (ne_eqb (F.flat (r a)) (F.rep (gpi F (r a))) (λ z. ne (e ∙ z ∙ ap (λ (x : ℕ). F.rep (F.low x)) (sym e))), and-false) refl

    pub unknown : F.known (F.low f) ≡ false → single F r a n ≡ false
    unfolding single
    unknown z = go (single F r a n) refl
      where
        go : (b : Bool) → single F r a n ≡ b → single F r a n ≡ false
        go true s =
            let v = reads-valid F (r a) (gpi F (r a)) (every-at (λ j. reads F (r j) (gpi F (r a))) a n s a (omega arith) (omega arith)) in
            let k : F.known (F.low f) ≡ true = rw e (L.known_low (r a) v) in
            let z : ◌≡◌ {A = ℕ} 0 1 = cc in
            absurd (omega arith)
        go false s = s
