-- `stores::Journal::barriers` meets its contract: three records, and no store.
use mathlib.Core.Path.{sym, ◌∙◌}
use mathlib.Core.List.{[], ◌∷◌}
use Prim.Native.Nat.{ℕ}
use native.Mathlib.Nat.{add-zero}
use Rattle.theory.specs.Stores.{apply}
use Rattle.theory.specs.Events.{Kind, barrier, kind_number, dsb_oshst, tlbi, dsb_osh}
use Rattle.stores.specs.declared.Journal.{Journal}
use Rattle.stores.specs.Journal.{Journaled, Recorded}
use Rattle.stores.proofs.Events.{one, later}
use Rattle.stores.proofs.Journal.barriers.Goals as goal

-- a record of a barrier is that barrier's event
told : (k : Kind) (x y : ℕ) {i j : Journal} → Recorded (kind_number k ∷ x ∷ y ∷ 0 ∷ []) i j → Journaled (barrier k x y ∷ []) i j
unfolding apply
told k x y r = one r.same (barrier k x y) tt r.table r.log r.records (r.stores ∙ sym (add-zero _))

pub returns : goal.returns
returns c =
    later (later (told dsb_oshst _ _ c.log_record.ensures) (told tlbi _ _ c.log_record-2.ensures)) (told dsb_osh _ _ c.log_record-3.ensures)
