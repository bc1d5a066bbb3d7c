-- Where the ranges of a set lie, in the crate `set_table`: each range around the index is in the 512 MB range.
use mathlib.Core.Path.{◌≡◌}
use mathlib.Core.List.{List}
use Prim.Native.Nat.{ℕ, zero, suc, ◌+◌, ◌*◌, ◌≤◌, ◌<◌}
use native.Mathlib.Nat.{div-mul-le_self, le_trans, le_refl}
use native.Mathlib.Omega.{arith}
use lib.ListN.{length}
use Rattle.theory.specs.Normal.{span, base}
use Rattle.theory.proofs.Ranges.{span_pos, base-hi}
use Rattle.theory.specs.Events.{Event}
use Rattle.stores.specs.declared.Journal.{Journal}
use Rattle.stores.specs.Journal.{Journaled, Space}
use Rattle.stores.proofs.Events.{kept_table}
use Rattle.set_table.specs.Inner.{Placed}

-- each level's range around i ends within the largest
level_in : (u i l : ℕ) → l < 3 → base (span u l) i + span u l ≤ base (span u 2) i + span u 2
unfolding span
level_in u i zero h = le_trans (base-hi u i) (base-hi (16 * u) i)
level_in u i (suc zero) h = base-hi (16 * u) i
level_in u i (suc (suc zero)) h = le_refl _
level_in u i (suc (suc (suc l))) h = absurd (omega arith)

-- and has no more words
pub level_least : (u l : ℕ) → l < 3 → span u l ≤ span u 2
unfolding span
level_least u zero h = omega arith
level_least u (suc zero) h = omega arith
level_least u (suc (suc zero)) h = omega arith
level_least u (suc (suc (suc l))) h = absurd (omega arith)

level_most : (u l : ℕ) → u ≤ 32 → l < 3 → span u l ≤ 8192
unfolding span
level_most u l h k = let m : span u l ≤ span u 2 = level_least u l k in omega arith

-- where the range of n words around i lies
pub record Lies (t : List ℕ) (i n : ℕ) : Type 0 where
  pub pos : 0 < n
  pub most : n ≤ 8192
  pub low : base n i ≤ i
  pub inside : base n i + n ≤ length t

pub lies : {t : List ℕ} {i u : ℕ} → Placed t i u → (l n : ℕ) → l < 3 → n ≡ span u l → Lies t i n
lies {t} {i} {u} p l n h e =
    rw e record {
      pos = span_pos u l p.least;
      most = level_most u l p.most h;
      low = div-mul-le_self i (span u l);
      inside = omega (arith, level_in u i l h, p.inside);
    }

-- events leave the table as long as it was
pub still : {es : List Event} {j k : Journal} {i u : ℕ} → Journaled es j k → Placed j.table.now i u → Placed k.table.now i u
still d p =
    let e = kept_table d in
    record {
      least = p.least;
      most = p.most;
      index = omega (arith, e, p.index);
      inside = omega (arith, e, p.inside);
      small = omega (arith, e, p.small);
    }

-- what a fill asks
pub record Fills (j : Journal) (at n : ℕ) : Type 0 where
  pub inside : at + n ≤ length j.table.now
  pub room : Space j 1 n
