-- Laws of runs: a piece that answers alike is passed at once, and where the first run ends.
use mathlib.Core.Path.{◌≡◌, refl, sym, ap, ap₂, ◌∙◌}
use mathlib.Core.Bool.{Bool, true, false}
use mathlib.Core.List.{List, [], ◌∷◌}
use Prim.Native.Nat.{ℕ, zero, suc, ◌+◌, ◌-◌, ◌≤◌, ◌<◌}
use native.Mathlib.Numerals.{add-one}
use native.Mathlib.Nat.{add-zero, suc-add}
use native.Mathlib.Omega.{arith}
use borrow.Author.Tests.{eq-eqb, ne_eqb}
use Rattle.std.specs.Prelude.{Result}
use Rattle.gpi.specs.declared.Gpi.{Gpi}
use Rattle.resolve.specs.declared.Refusal.{Refusal}
use Rattle.dump_lines.specs.declared.Run.{Run}
use Rattle.dump_runs.specs.declared.Piece.{Piece}
use Rattle.dump_runs.specs.Runs.{code_of, alike, run, runs, from}
use Rattle.dump_runs.specs.Inner.{Holds, First}
use Rattle.dump_runs.proofs.Answers.{code-tells}

-- k addresses that answer as a does, passed at once
pass : (f : ℕ → Result Gpi Refusal) (s a k n : ℕ) → ((x : ℕ) → a ≤ x → x ≤ a + k → f x ≡ f a) → runs f s a (k + n) ≡ runs f s (a + k) n
unfolding runs
pass f s a zero n h = let z : zero + n ≡ n = omega arith in ap₂ (runs f s) (sym (add-zero a)) z
pass f s a (suc k) n h =
    ap (runs f s a) (suc-add k n)
    ∙ rw (eq-eqb (code_of (f (suc a))) (code_of (f a)) (ap code_of (h (suc a) (omega arith) (omega arith))))
    (pass f s (suc a) k n (λ x i j. h x (omega arith) (omega arith) ∙ sym (h (suc a) (omega arith) (omega arith)))
    ∙ ap (λ (m : ℕ). runs f s m n) (omega arith))

-- from the address a to b, of a end
pub slide : (f : ℕ → Result Gpi Refusal) (s a b end : ℕ) → a ≤ b → b < end → ((x : ℕ) → a ≤ x → x ≤ b → f x ≡ f a)
    → runs f s a (end - 1 - a) ≡ runs f s b (end - 1 - b)
slide f s a b end h l e =
    ap (runs f s a) (omega arith)
    ∙ pass f s a (b - a) (end - 1 - b) (λ x i j. e x i (omega arith))
    ∙ ap (λ (m : ℕ). runs f s m (end - 1 - b)) (omega arith)

from-runs : (f : ℕ → Result Gpi Refusal) (a end : ℕ) → a < end → from f a (end - a) ≡ runs f a a (end - 1 - a)
unfolding from
from-runs f a end h = ap (from f a) (let e : end - a ≡ suc (end - 1 - a) = omega arith in e)

runs-step : (f : ℕ → Result Gpi Refusal) (s a end : ℕ) → a + 1 < end → runs f s a (end - 1 - a) ≡ runs f s a (suc (end - 1 - (a + 1)))
runs-step f s a end h = ap (runs f s a) (omega arith)

-- the first piece
pub start-run : (f : ℕ → Result Gpi Refusal) (end a : ℕ) (p : Piece) → a < end → Holds f end a p
    → from f a (end - a) ≡ runs f a p.last (end - 1 - p.last)
start-run f end a p h q = from-runs f a end h ∙ slide f a a p.last end q.from q.inside q.same

-- one more piece that answers alike
pub more_run : (f : ℕ → Result Gpi Refusal) (end s l : ℕ) (p : Piece) → l + 1 < end → Holds f end (l + 1) p → p.answer ≡ f l
    → runs f s l (end - 1 - l) ≡ runs f s p.last (end - 1 - p.last)
unfolding runs
more_run f end s l p h q e =
    let o : suc l ≡ l + 1 = sym (add-one l) in
    runs-step f s l end h
    ∙ rw (eq-eqb (code_of (f (suc l))) (code_of (f l)) (ap code_of (ap f o ∙ sym q.answer ∙ e)))
    (ap (λ (m : ℕ). runs f s m (end - 1 - (l + 1))) o ∙ slide f s (l + 1) p.last end q.from q.inside q.same)

-- a piece that answers otherwise ends the run
pub end_run : {c : Result Gpi Refusal} (f : ℕ → Result Gpi Refusal) (end a l : ℕ) (p : Piece) → a ≤ l → l + 1 < end → c ≡ f l
    → from f a (end - a) ≡ runs f a l (end - 1 - l) → Holds f end (l + 1) p → (p.answer ≡ c → ⊥) →
    First f end a (run a l c)
unfolding runs
end_run {c} f end a l p u h e i q n =
    let o : suc l ≡ l + 1 = sym (add-one l) in
    record {
      runs = i ∙ runs-step f a l end h
          ∙ rw (ne_eqb (code_of (f (suc l))) (code_of (f l)) (λ z. n
          (q.answer ∙ ap f (sym o) ∙ code-tells (f (suc l)) (f l) z ∙ sym e)))
          (ap₂ (λ (x : Result Gpi Refusal) (y : List Run). run a l x ∷ y) (sym e)
          (ap (λ (m : ℕ). runs f m m (end - 1 - (l + 1))) o ∙ sym (from-runs f (l + 1) end h)));
      start = refl;
      up = u;
      inside = omega arith;
    }

-- so does the last address
pub last_run : {c : Result Gpi Refusal} (f : ℕ → Result Gpi Refusal) (end a l : ℕ) → a ≤ l → l < end → end ≤ l + 1 → c ≡ f l
    → from f a (end - a) ≡ runs f a l (end - 1 - l) → First f end a (run a l c)
unfolding runs from
last_run {c} f end a l u h t e i =
    record {
      runs = i ∙ ap (runs f a l) (let z : end - 1 - l ≡ 0 = omega arith in z)
          ∙ ap₂ (λ (x : Result Gpi Refusal) (y : List Run). run a l x ∷ y) (sym e) (ap (from f (l + 1)) (let z : 0 ≡ end - (l + 1) = omega arith in z));
      start = refl;
      up = u;
      inside = h;
    }

-- ---- there is a first run

-- the first run, as a fact about the definition
pub record Head (f : ℕ → Result Gpi Refusal) (s a n : ℕ) : Type 0 where
  pub last : ℕ
  pub up : a ≤ last
  pub most : last ≤ a + n
  pub is : runs f s a n ≡ run s last (f last) ∷ from f (last + 1) (a + n - last)

head_run : (f : ℕ → Result Gpi Refusal) (s a n : ℕ) → Head f s a n
unfolding runs from
head_run f s a zero = record {
  last = a;
  up = omega arith;
  most = omega arith;
  is = ap (λ (k : ℕ). run s a (f a) ∷ from f (a + 1) k)
      (let z : 0 ≡ a + 0 - a = omega arith in z);
}
head_run f s a (suc n) = go (alike (f (suc a)) (f a)) refl (head_run f s (suc a) n)
  where
    go : (b : Bool) → alike (f (suc a)) (f a) ≡ b → Head f s (suc a) n → Head f s a (suc n)
    go true e h =
        let u = h.up in let m = h.most in
        record {
          last = h.last;
          up = omega arith;
          most = omega arith;
          is = rw e
              (h.is ∙ ap (λ (k : ℕ). run s h.last (f h.last) ∷ from f (h.last + 1) k)
              (let z : suc a + n - h.last ≡ a + suc n - h.last = omega arith in z));
        }
    go false e h =
        let z : suc n ≡ a + suc n - a = omega arith in
        record {
          last = a;
          up = omega arith;
          most = omega arith;
          is = rw e
              (ap₂ (λ (m k : ℕ). run s a (f a) ∷ from f m k) (sym (add-one a)) z);
        }

pub some_run : (f : ℕ → Result Gpi Refusal) (end a : ℕ) → a < end → (r : Run) × First f end a r
unfolding from
some_run f end a h =
    let d = head_run f a a (end - 1 - a) in
    let u = d.up in let m = d.most in
    let z : end - a ≡ suc (end - 1 - a) = omega arith in
    let y : a + (end - 1 - a) - d.last ≡ end - (d.last + 1) = omega arith in (
      run a d.last (f d.last),
      record {
        runs = ap (from f a) z ∙ d.is
            ∙ ap (λ (k : ℕ). run a d.last (f d.last) ∷ from f (d.last + 1) k) y;
        start = refl;
        up = u;
        inside = omega arith;
      },
    )

pub none_left : (f : ℕ → Result Gpi Refusal) (end a : ℕ) → end ≤ a → from f a (end - a) ≡ []
unfolding from
none_left f end a h = ap (from f a) (let z : end - a ≡ 0 = omega arith in z)
