-- `stores::Journal::fill_descs` meets its contract. The loop keeps that exactly the first k words are stored.
use mathlib.Core.Path.{ap, ◌∙◌}
use Prim.Native.Nat.{◌+◌}
use native.Mathlib.Numerals.{add-one}
use native.Mathlib.Omega.{arith}
use Rattle.theory.proofs.Stores.{apply-fill_suc}
use Rattle.stores.proofs.Events.{fill_done}
use Rattle.stores.proofs.Journal.fill_descs.Goals as goal

pub loop-k-preserved : goal.loop-k-preserved
loop-k-preserved c = rw (add-one, apply-fill_suc, ← c.loop-k.invariant)

pub returns : goal.returns
returns c =
    let r = c.log_record.ensures in
    fill_done record { table = r.same.table; log = r.same.log; offset = r.same.offset } _ _ _ (omega arith) (omega arith)
    c.loop-k.k (omega arith) (omega arith) (r.table ∙ c.loop-k.invariant) r.log r.records (ap (λ n. n + c.args.count) r.stores)
