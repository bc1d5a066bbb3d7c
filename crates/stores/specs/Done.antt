-- That events happened, and nothing else; and the room that they take: over a table, a log and a tally by themselves. Of the crate `stores`.
use Rattle.std.specs.Prelude.{◌≡◌, List, ℕ, ◌+◌, ◌*◌, ◌≤◌, ◌<◌, ◌^◌, length}
use Rattle.theory.specs.Stores.{apply, Inside}
use Rattle.theory.specs.Events.{Event, stores, count, logged}
use Rattle.stores.specs.declared.Tally.{Tally}

-- the events es of a table that stands at o in its arena happened: from the table t, the log l and the tally a to t', l' and b
pub record Done (o : ℕ) (es : List Event) (t t' l l' : List ℕ) (a b : Tally) : Type 0 where
  pub inside : Inside (length t) (stores es)
  pub table : t' ≡ apply t (stores es)
  pub log : l' ≡ logged o a.records es l
  pub records : b.records ≡ a.records + length es
  pub stores : b.stores ≡ a.stores + count es

-- room for k records and n stores more
pub record Room (t l : List ℕ) (o : ℕ) (a : Tally) (k n : ℕ) : Type 0 where
  pub arena : o + length t < 2 ^ 62
  pub room : 4 * (a.records + k) ≤ length l
  pub few : a.stores + n < 2 ^ 62

abbrev pub fresh : Tally
fresh = record { records = 0; stores = 0 }

-- "The store count is all fill counts plus one", the record count that of the events
abbrev pub tally_of : List Event → Tally
tally_of es = record { records = length es; stores = count es }
