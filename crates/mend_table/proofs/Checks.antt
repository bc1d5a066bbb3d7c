-- Crate mend_table. The steps of `region` and `parts` over plain tables: how a range is compared as it is judged, how ranges follow one
-- another, and that the whole table so compared is the check of document 01.
use mathlib.Core.Path.{◌≡◌, refl, sym, ap, ◌∙◌}
use mathlib.Core.Bool.{Bool, true, false}
use mathlib.Core.List.{List, [], ◌++◌, append_assoc}
use Prim.Native.Nat.{ℕ, suc, ◌+◌, ◌*◌, ◌/◌, ◌<◌, ◌≤◌}
use native.Mathlib.Nat.{add-mul, one-mul, zero-mul, zero-add, mul-le-mul_right}
use native.Mathlib.Decide.{dec_lt}
use native.Mathlib.Omega.{arith}
use lib.Dec.{eqb}
use lib.ListN.{length, length-append}
use Rattle.std.specs.List.{list_all}
use Rattle.std.proofs.Common.{Option}
use Rattle.gpi.specs.declared.Size.{Size}
use Rattle.theory.specs.Format.{Format}
use Rattle.theory.specs.Normal.{at, span, every, normal_up_to}
use Rattle.l1.specs.Arm.{level_of}
use Rattle.mend_table.specs.declared.Judged.{Judged}
use Rattle.mend_table.specs.declared.Judged.TheVariants.{Words, Parts}
use Rattle.mend_table.specs.Mend.{Regions}
use Rattle.mend_table.specs.Normal.{is_normal}
use Rattle.mend_table.specs.Inner.{wanted_at, Ranges, Judges, Fits}
use Rattle.mend_table.proofs.Lists.{every-there, every-add, every-list}
use Rattle.mend_table.proofs.Slices.{at_part, normal_part}
use Rattle.mend_table.proofs.Judging.{part_of}
use Rattle.mend_table.proofs.Yes.{normal-fits}

-- the test of word i
abbrev is_right : Format → ℕ → ℕ → List ℕ → ℕ → Bool
is_right F u l t i = eqb (at t i) (normal_up_to F u (at t) (suc l) i)

-- ---- ranges, one after another

-- some have passed, and the others are left
pub record Passed (F : Format) (l n : ℕ) (t rest : List ℕ) : Type 0 where
  pub count : ℕ
  pub before : List ℕ
  pub whole : t ≡ before ++ rest
  pub size : length before ≡ count * n
  pub fits : Fits F l n (count * n) t true

module _ (F : Format) {l n : ℕ} (t : List ℕ) where
  pub none_yet : Passed F l n t t
  unfolding every
  none_yet =
      record {
        count = 0;
        before = [];
        whole = refl;
        size = sym (zero-mul n);
        fits = record { same = λ u f. rw (zero-mul n) refl };
      }

  -- the next, compared as a table of its own
  module _ (s rest : List ℕ) (p : Passed F l n t (s ++ rest)) (es : length s ≡ n) where
    next : (b : Bool) → Fits F l (length s) (length s) s b → Fits F l n ((p.count + 1) * n) t b
    next b g =
        record {
          same = λ u q.
              let here : every (is_right F u l s) 0 (length s)
              ≡ every (is_right F u l (p.before ++ (s ++ rest))) (length p.before) (length s)
              = every-there (is_right F u l s) (is_right F u l (p.before ++ (s ++ rest))) 0 (length p.before) (length s)
              (λ j h.
              rw (
                zero-add j,
                at_part p.before s rest j h,
                normal_part p.before s rest F u l p.count q.some (p.size ∙ ap (λ (m : ℕ). p.count * m) q.size) (es ∙ q.size) j h,
              ) refl) in
              rw (
                add-mul p.count 1 n,
                one-mul n,
                every-add (is_right F u l t) 0 (p.count * n) n,
                ← (p.fits.same u q),
                zero-add (p.count * n),
              ) (g.same u (record { some = q.some; size = es ∙ q.size }) ∙ here ∙ rw (p.whole, p.size, es) refl);
        }

    pub one_right : Fits F l (length s) (length s) s true → Passed F l n t rest
    one_right g =
        record {
          count = p.count + 1;
          before = p.before ++ s;
          whole = p.whole ∙ sym (append_assoc p.before s rest);
          size = length-append p.before s ∙ rw (p.size, es, add-mul p.count 1 n, one-mul n) refl;
          fits = next true g;
        }

    -- where one is wrong, the whole is
    pub one_wrong : Fits F l (length s) (length s) s false → Fits F l n (length t) t false
    one_wrong g =
        record {
          same = λ u q.
              let e : length t ≡ (p.count + 1) * n + length rest
              = ap (λ (z : List ℕ). length z) p.whole ∙ simp length-append (omega (arith, p.size, es)) in
              rw (
                e,
                every-add (is_right F u l t) 0 ((p.count + 1) * n) (length rest),
                ← ((next false g).same u q),
              ) refl;
        }

  -- where less than a range is left, nothing is
  pub all_right : (rest : List ℕ) → Ranges l n t → Passed F l n t rest → length rest < n → Fits F l n (length t) t true
  all_right rest h p less = let e : p.count * n ≡ length t = go (dec_lt p.count h.count) in rw e at p.fits
    where
      both : h.count * n ≡ p.count * n + length rest
      both =
          sym h.whole ∙ ap (λ (z : List ℕ). length z) p.whole ∙ length-append p.before rest ∙ ap (λ (m : ℕ). m + length rest) p.size

      go : Dec (p.count < h.count) → p.count * n ≡ length t
      go (yes b) =
          let b' : p.count + 1 ≤ h.count = omega arith in
          let k : (p.count + 1) * n ≤ h.count * n = mul-le-mul_right n b' in absurd (omega (arith, both, simp (add-mul, one-mul) at k))
      go (no b) =
          let c : h.count ≤ p.count = omega arith in
          let k : h.count * n ≤ p.count * n = mul-le-mul_right n c in omega (arith, both, h.whole)

-- ---- a range as it is judged

module _ (F : Format) {l : ℕ} (t : List ℕ) {b : Bool} {x : Judged} (j : Judges F l t x) where
  pub words_checked : (want : Option ℕ) → x ≡ Words want → b ≡ list_all (λ v. eqb v (wanted_at F want v)) t
      → Fits F l (length t) (length t) t b
  words_checked want q w =
      let j' : Judges F l t (Words want) = rw q at j in
      record {
        same = λ u f.
            w ∙ every-list (λ v. eqb v (wanted_at F want v)) t
            ∙ every-there (λ i. eqb (at t i) (wanted_at F want (at t i))) (is_right F u l t) 0 0 (length t)
            (λ i h. rw (zero-add i, j'.words u f i h) refl);
      }

  pub parts_checked : (s : Size) → x ≡ Parts s → Fits F (level_of s) (length t / 16) (length t) t b → Fits F l (length t) (length t) t b
  parts_checked s q w =
      let j' : Judges F l t (Parts s) = rw q at j in
      record {
        same = λ u f.
            w.same u (part_of f j'.below)
            ∙ every-there (is_right F u (level_of s) t) (is_right F u l t) 0 0 (length t) (λ i h. rw (zero-add i, j'.words u f i h) refl);
      }

-- a table of whole regions
pub whole_checked : (F : Format) {u n : ℕ} (t : List ℕ) {b : Bool} → Regions u t → n ≡ span u 2 → Fits F 2 n (length t) t b
    → b ≡ is_normal F u t
whole_checked F {u} t p e h = h.same u (record { some = p.some; size = e }) ∙ sym (normal-fits F u t)
