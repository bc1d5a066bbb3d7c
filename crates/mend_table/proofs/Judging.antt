-- Crate mend_table. The judgement of a range: that it holds by the range's one GPI.
use mathlib.Core.Path.{◌≡◌, refl, sym, ap, ◌∙◌}
use mathlib.Core.List.{List}
use Prim.Native.Nat.{ℕ, suc, ◌*◌, ◌/◌, ◌<◌}
use native.Mathlib.Nat.{zero-mul, one-mul, mul_comm}
use native.Mathlib.Omega.{arith}
use lib.ListN.{length}
use Rattle.std.proofs.Common.{Some, None}
use Rattle.gpi.specs.declared.Gpi.{Gpi}
use Rattle.gpi.specs.declared.Size.{Size}
use Rattle.gpi.specs.Gpi.{num}
use Rattle.theory.specs.Format.{Format, Laws}
use Rattle.theory.specs.Normal.{at, span, normal_up_to}
use Rattle.theory.proofs.Levels.{normal_up_to-flat}
use Rattle.theory.proofs.MendWalk.{words_single, words_mixed}
use Rattle.theory.proofs.Ranges.{span_pos}
use Rattle.l1.specs.Arm.{level_of}
use Rattle.mend_table.specs.declared.Judged.{Judged}
use Rattle.mend_table.specs.declared.Judged.TheVariants.{Words, Parts}
use Rattle.mend_table.specs.Inner.{Unit_of, Ranges, OneIs, Judges}

-- a range has a word
pub range_pos : {l n : ℕ} {t : List ℕ} → Ranges l n t → 0 < n
range_pos {l} h = omega (arith, h.fits.size, span_pos h.unit l h.fits.some)

-- one of them
pub one_range : {l n : ℕ} {t : List ℕ} → Ranges l n t → (s : List ℕ) → length s ≡ n → Ranges l (length s) s
one_range h s e =
    record {
      unit = h.unit;
      fits = record { some = h.fits.some; size = e ∙ h.fits.size };
      count = 1;
      whole = sym (one-mul (length s));
    }

-- its sixteen parts
module _ {u l m n : ℕ} (f : Unit_of u l n) (z : l ≡ suc m) where
  pub sixteenth : n ≡ n / 16 * 16
  unfolding span
  sixteenth = let e : n ≡ 16 * span u m = f.size ∙ rw z refl in omega arith

  pub part_of : Unit_of u m (n / 16)
  unfolding span
  part_of = let e : n ≡ 16 * span u m = f.size ∙ rw z refl in record { some = f.some; size = omega arith }

pub parts_lie : {l m : ℕ} {t : List ℕ} → Ranges l (length t) t → l ≡ suc m → Ranges m (length t / 16) t
parts_lie {t = t} h z =
    record { unit = h.unit; fits = part_of h.fits z; count = 16; whole = sixteenth h.fits z ∙ mul_comm (length t / 16) 16 }

-- ---- the judgement

module _ (F : Format) (L : Laws F) {l : ℕ} (t : List ℕ) where
  pub of_one : (g : Gpi) (w : ℕ) → OneIs F t (Some g) → w ≡ F.contig l (num g) → Judges F l t (Words (Some w))
  of_one g w o v =
      record {
        below = tt;
        words = λ u f i b.
            words_single F L u f.some (at t) l 0 0 (sym (zero-mul (span u l))) (rw f.size at o.0) i (omega arith) (omega (arith, f.size))
            ∙ sym (v ∙ ap (F.contig l) o.1);
      }

  module _ (o : OneIs F t None) where
    lower : (u : ℕ) → Unit_of u l (length t) → (i : ℕ) → i < length t → normal_up_to F u (at t) (suc l) i ≡ normal_up_to F u (at t) l i
    lower u f i b =
        words_mixed F L u f.some (at t) l 0 0 (sym (zero-mul (span u l))) (rw f.size at o) i (omega arith) (omega (arith, f.size))

    pub of_words : l ≡ 0 → Judges F l t (Words None)
    of_words z =
        record {
          below = tt;
          words = λ u f i b. lower u f i b ∙ ap (λ (m : ℕ). normal_up_to F u (at t) m i) z ∙ normal_up_to-flat F L u f.some (at t) i;
        }

    pub of_parts : {s : Size} → l ≡ suc (level_of s) → Judges F l t (Parts s)
    of_parts z = record { below = z; words = λ u f i b. lower u f i b ∙ ap (λ (m : ℕ). normal_up_to F u (at t) m i) z }

-- the parts are of the level below
pub down : {F : Format} {l : ℕ} {t : List ℕ} {x : Judged} {s : Size} → Judges F l t x → x ≡ Parts s → l ≡ suc (level_of s)
down {F} {l} {t} {s = s} j q = let j' : Judges F l t (Parts s) = rw q at j in j'.below
