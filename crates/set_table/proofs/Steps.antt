-- What holds between the calls of a shatter. Of the crate `set_table`.
use mathlib.Core.Path.{◌≡◌, refl, sym}
use mathlib.Core.List.{◌++◌}
use Prim.Native.Nat.{ℕ, suc, ◌+◌, ◌-◌, ◌*◌, ◌≤◌}
use native.Mathlib.Omega.{arith}
use lib.ListN.{replicate}
use Rattle.std.specs.Prelude.{None, Some}
use Rattle.gpi.specs.declared.Gpi.{Gpi}
use Rattle.gpi.specs.declared.Size.{Size}
use Rattle.gpi.specs.Gpi.{num}
use Rattle.gpi.specs.Size.{smaller_of}
use Rattle.theory.specs.Normal.{span, base}
use Rattle.theory.specs.Set.{fill_event, shatter}
use Rattle.theory.proofs.Set.{few, few_shatter, count-fill, count-shatter}
use Rattle.theory.proofs.Ranges.{base-lo, base-hi}
use Rattle.granules.specs.Packed.{granule_word}
use Rattle.l1.specs.L1.{contig_word}
use Rattle.l1.specs.Arm.{arm, level_of}
use Rattle.l1.proofs.Sizes.{level_down, level_none}
use Rattle.l1.proofs.Arm.{level_lt, contig_arm, granule_arm}
use Rattle.stores.specs.declared.Journal.{Journal}
use Rattle.stores.specs.Journal.{Journaled, Space}
use Rattle.stores.proofs.Events.{later, kept_table, less, left}
use Rattle.set_table.specs.declared.SetAt.{SetAt}
use Rattle.set_table.specs.declared.Cut.{Cut}
use Rattle.set_table.specs.Inner.{Placed, Cuts}
use Rattle.set_table.proofs.Places.{Lies, lies, Fills}

-- a shatter by its parts, where n words are the part's
parts : (u i g l n : ℕ) → n ≡ span u l
    → shatter arm u g i (suc l)
    ≡ fill_event (base (16 * n) i) (base n i - base (16 * n) i) (arm.contig l g)
    ++ shatter arm u g i l
    ++ fill_event (base n i + n) (base (16 * n) i + 16 * n - (base n i + n)) (arm.contig l g)
unfolding shatter span
parts u i g l n e = rw e

-- ---- 2 MB

module _ (i u : ℕ) {j : Journal} (s : Size) (z : None ≡ smaller_of s) where
  pub last_fills : Placed j.table.now i u → Space j (1 + 2 * level_of s) (span u (level_of s)) → Fills j (base u i) u
  unfolding span
  last_fills p r = record { inside = (lies p 0 u (omega arith) refl).inside; room = rw (level_none s (sym z)) at r }

  pub last_done : (g : Gpi) {w : ℕ} {k : Journal} → w ≡ granule_word (replicate 16 g) → Journaled (fill_event (base u i) u w) j k
      → Journaled (shatter arm u (num g) i (level_of s)) j k
  unfolding shatter
  last_done g q d = rw (level_none s (sym z), ← granule_arm g, ← q) d

-- ---- more

-- what is known where the range of the size s is to be cut: m is the next smaller size, n its words
pub record Parted (j : Journal) (q : SetAt) (s m : Size) (n : ℕ) : Type 0 where
  pub placed : Placed j.table.now q.index q.unit
  pub room : Space j (1 + 2 * level_of s) (span q.unit (level_of s))
  pub smaller : Some m ≡ smaller_of s
  pub words : n ≡ span q.unit (level_of m)

module _ {j : Journal} {q : SetAt} {s m : Size} {n : ℕ} (p : Parted j q s m n) where
  abbrev i : ℕ
  i = q.index

  abbrev u : ℕ
  u = q.unit

  down : level_of s ≡ suc (level_of m)
  down = level_down s m (sym p.smaller)

  pub part_lies : Lies j.table.now i n
  part_lies = lies p.placed (level_of m) n (level_lt m) p.words

  -- sixteen parts to the whole
  whole : 16 * n ≡ span u (level_of s)
  unfolding span
  whole = rw (down, p.words)

  whole_lies : Lies j.table.now i (16 * n)
  whole_lies = lies p.placed (level_of s) (16 * n) (level_lt s) whole

  pub part_most : n ≤ 512
  part_most = omega (arith, whole_lies.most)

  module _ {c : Cut} (k : Cuts i n c) where
    lo : base (16 * n) i ≤ base n i
    lo = base-lo n i

    hi : base n i + n ≤ base (16 * n) i + 16 * n
    hi = base-hi n i

    -- the parts of the cut make up the whole
    sum : c.before + n + c.after ≡ 16 * n
    sum = omega (arith, lo, hi, k.before, k.after)

    roomy : Space j (3 + 2 * level_of m) (c.before + n + c.after)
    roomy = less _ _ p.room (omega (arith, down)) (omega (arith, sum, whole))

    pub first_fills : Fills j c.low c.before
    first_fills =
        record {
          inside = omega (arith, lo, hi, k.low, k.before, whole_lies.inside);
          room = less 1 c.before roomy (omega arith) (omega arith);
        }

    module _ (w : ℕ) {j₁ : Journal} (x : Journaled (fill_event c.low c.before w) j j₁) where
      first-left : Space j₁ (2 + 2 * level_of m) (n + c.after)
      first-left = left x _ _ roomy (omega (arith, few c.low c.before w)) (omega (arith, count-fill c.low c.before w))

      pub inward_room : Space j₁ (1 + 2 * level_of m) (span u (level_of m))
      inward_room = rw (← p.words) (less _ n first-left (omega arith) (omega arith))

      pub second_fills : (g : ℕ) {j₂ : Journal} → Journaled (shatter arm u g i (level_of m)) j₁ j₂ → Fills j₂ c.high c.after
      second_fills g y =
          record {
            inside = omega (arith, lo, hi, k.high, k.after, whole_lies.inside, kept_table y, kept_table x);
            room = left y 1 c.after first-left
                (omega (arith, few_shatter arm u g i (level_of m))) (omega (arith, count-shatter arm u g i (level_of m), p.words));
          }

    pub all_done : (g : Gpi) {w : ℕ} {j₁ j₂ j₃ : Journal} → w ≡ contig_word m g
        → Journaled (fill_event c.low c.before w) j j₁ → Journaled (shatter arm u (num g) i (level_of m)) j₁ j₂
        → Journaled (fill_event c.high c.after w) j₂ j₃ → Journaled (shatter arm u (num g) i (level_of s)) j j₃
    all_done g e x y z =
        rw (down, parts u i (num g) (level_of m) n p.words, ← contig_arm m g, ← e)
        (rw (← k.after, ← k.high, ← k.before, ← k.low) (later (later x y) z))
