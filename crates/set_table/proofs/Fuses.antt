-- What holds between the calls of the fuse: where a size's range lies, and its fill. Of the crate `set_table`.
use mathlib.Core.Path.{◌≡◌}
use mathlib.Core.List.{List}
use Prim.Native.Nat.{ℕ}
use native.Mathlib.Omega.{arith}
use Rattle.std.specs.Prelude.{Option, None, Some, Result, Ok}
use Rattle.gpi.specs.declared.Gpi.{Gpi}
use Rattle.gpi.specs.declared.Size.{Size}
use Rattle.gpi.specs.Gpi.{num}
use Rattle.theory.specs.Normal.{span, base}
use Rattle.theory.specs.Set.{fill_event, fused}
use Rattle.l1.specs.L1.{contig_word}
use Rattle.l1.specs.Arm.{arm, level_of}
use Rattle.l1.proofs.Arm.{level_lt, contig_arm}
use Rattle.stores.specs.declared.Journal.{Journal}
use Rattle.stores.specs.Journal.{Journaled, Space}
use Rattle.stores.proofs.Events.{none, less}
use Rattle.set_table.specs.Inner.{Placed, leveled}
use Rattle.set_table.proofs.Places.{Lies, lies, level_least}

module _ (i u : ℕ) (s : Size) {n : ℕ} (e : n ≡ span u (level_of s)) where
  pub fuse_lies : {t : List ℕ} → Placed t i u → Lies t i n
  fuse_lies p = lies p (level_of s) _ (level_lt s) e

  pub fuse_room : {j : Journal} → Space j 1 (span u 2) → Space j 1 n
  fuse_room r = less 1 n r (omega arith) (omega (arith, level_least u (level_of s) (level_lt s), e))

  pub fuse_done : (g : Gpi) {w : ℕ} {j k : Journal} {m : Result (Option Size) ℕ} {best : Option Size} → m ≡ Ok best → best ≡ Some s
      → w ≡ contig_word s g → Journaled (fill_event (base n i) n w) j k → Journaled (fused arm u (num g) i (leveled m)) j k
  unfolding fused
  fuse_done g x y q d = rw (x, y, ← e, ← contig_arm s g, ← q) d

-- where nothing is fused
pub unfused : (i u : ℕ) (g : Gpi) {m : Result (Option Size) ℕ} {best : Option Size} (j : Journal) → m ≡ Ok best → best ≡ None
    → Journaled (fused arm u (num g) i (leveled m)) j j
unfolding fused
unfused i u g j x y = rw (x, y) (none j)
