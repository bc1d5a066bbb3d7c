-- What holds between the calls of a break-up, and what room it leaves. Of the crate `set_table`.
use mathlib.Core.Path.{◌≡◌, ap}
use mathlib.Core.List.{List, ◌++◌}
use Prim.Native.Nat.{ℕ, ◌+◌, ◌*◌, ◌≤◌, ◌<◌}
use native.Mathlib.Omega.{arith}
use lib.ListN.{length, length-append}
use Rattle.theory.specs.Format.{Format}
use Rattle.theory.specs.Normal.{span}
use Rattle.theory.specs.Events.{count}
use Rattle.theory.specs.Set.{barriers, shatter}
use Rattle.theory.proofs.Set.{few_shatter, count-append, count-shatter}
use Rattle.stores.specs.declared.Journal.{Journal}
use Rattle.stores.specs.Done.{Room, fresh}
use Rattle.stores.specs.Journal.{Journaled, Space}
use Rattle.stores.proofs.Events.{left, less}
use Rattle.set_table.proofs.Places.{level_least}

-- the room of a journal that is made of a table and a log
pub opened : {t l : List ℕ} {o r n : ℕ} {j : Journal} → Room t l o fresh r n → (j.tally.records ≡ 0) × (j.tally.stores ≡ 0)
    → t ≡ j.table.now → l ≡ j.log.now → o ≡ j.offset → Space j r n
opened m z x y e =
    record { arena = omega (arith, m.arena, ap length x, e); room = omega (arith, m.room, ap length y, z.0); few = omega (arith, m.few, z.1) }

module _ (F : Format) (u : ℕ) {j : Journal} (l : ℕ) (l< : l < 3) where
  pub shatter-room : Space j 8 (span u 2) → Space j (1 + 2 * l) (span u l)
  shatter-room r = less (1 + 2 * l) (span u l) r (omega arith) (level_least u l l<)

  module _ (g i : ℕ) {k : Journal} where
    pub barriers-room : Space j 8 (span u 2) → Journaled (shatter F u g i l) j k → 4 * (k.tally.records + 3) ≤ length k.log.now
    barriers-room r d =
        (left d 3 0 r (omega (arith, few_shatter F u g i l)) (omega (arith, count-shatter F u g i l, level_least u l l<))).room

    -- and what they leave of a set's room
    pub grant_room : Space j 13 (2 * span u 2 + 1) → (x b : ℕ) → Journaled (shatter F u g i l ++ barriers x b) j k
        → Space k 5 (1 + span u 2)
    unfolding count
    grant_room r x b d =
        left d 5 (1 + span u 2) r
        (simp length-append (omega (arith, few_shatter F u g i l)))
        (simp count-append (omega (arith, count-shatter F u g i l, level_least u l l<)))
