-- `stores::Journal::store_granule` meets its contract: one store and its record.
use mathlib.Core.Path.{ap}
use Prim.Native.Nat.{◌+◌}
use Rattle.theory.specs.Stores.{apply}
use Rattle.theory.specs.Events.{granule}
use Rattle.stores.proofs.Events.{one}
use Rattle.stores.proofs.Journal.store_granule.Goals as goal

pub returns : goal.returns
unfolding apply
returns c =
    let r = c.log_record.ensures in
    one record { table = r.same.table; log = r.same.log; offset = r.same.offset } (granule _ _ _)
    (c.requires.at_in_bounds, tt) r.table r.log r.records (ap (λ n. n + 1) r.stores)
