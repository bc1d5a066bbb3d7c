-- What a set answers and leaves, for every input: document 01, "Numbers handed back" and "Set, step by step".
use Rattle.std.specs.Prelude.{◌≡◌, cond, List, ℕ, length, Option, Some, None, Result, Ok, Err}
use Rattle.gpi.specs.declared.Gpi.{Gpi}
use Rattle.gpi.specs.Gpi.{num, gpi_at}
use Rattle.theory.specs.Normal.{at}
use Rattle.theory.specs.Stores.{apply}
use Rattle.theory.specs.Events.{Event, stores, logged}
use Rattle.theory.specs.Set.{Target, fusing, set_events}
use Rattle.config.specs.Format.{format_of}
use Rattle.resolve.specs.declared.Call.TheVariants.{Set}
use Rattle.resolve.specs.declared.Place.{Place}
use Rattle.resolve.specs.declared.Place.TheVariants.{Block, Table}
use Rattle.resolve.specs.declared.Site.{Site}
use Rattle.resolve.specs.declared.Refusal.{Refusal}
use Rattle.resolve.specs.declared.Refusal.TheVariants.{InvalidRequest, InvalidL1Entry}
use Rattle.resolve.specs.Refusals.{refusal_number}
use Rattle.resolve.specs.Lent.{Lent, place_for, table_in, lay_in}
use Rattle.stores.specs.declared.Tally.{Tally}
use Rattle.stores.specs.Done.{tally_of}
use Rattle.set_table.specs.declared.Changed.{Changed}
use Rattle.set_table.specs.declared.Changed.TheVariants.{Done, Stopped}
use Rattle.set_table.specs.Table.{answer_of}

-- the paper's number of each case, and its counts: "a refused set 0 stores and 0 records, except under 10, where both counts are those
-- made"
abbrev pub changed_number : Result Changed Refusal → ℕ
changed_number (Ok (Done t)) = 0
changed_number (Ok (Stopped t)) = 10
changed_number (Err r) = refusal_number r

abbrev pub changed_records : Result Changed Refusal → ℕ
changed_records (Ok (Done t)) = t.records
changed_records (Ok (Stopped t)) = t.records
changed_records (Err r) = 0

abbrev pub changed_stores : Result Changed Refusal → ℕ
changed_stores (Ok (Done t)) = t.stores
changed_stores (Ok (Stopped t)) = t.stores
changed_stores (Err r) = 0

-- what a set answers, what it leaves of what it was lent, and the log
pub record Outcome : Type 0 where
  pub answer : Result Changed Refusal
  pub left : Lent
  pub log : List ℕ

-- the answer r, the arena A and the log L are that outcome
pub record Made (o : Outcome) (r : Result Changed Refusal) (A L : List ℕ) : Type 0 where
  pub answer : r ≡ o.answer
  pub arena : A ≡ o.left.arena
  pub log : L ≡ o.log

-- "Refusals 1 to 9 change nothing."
abbrev pub refused : Refusal → Lent → List ℕ → Outcome
refused r q L = record { answer = Err r; left = q; log = L }

-- what is set at a site: the granule of the address x, as it is given, to the GPI of number g
abbrev pub target_at : Site → ℕ → ℕ → Target
target_at s x g = record { word = s.index; granule = s.granule; gpi = g; address = x; bytes = s.bytes }

-- the events of a set at a site
abbrev pub site_events : Lent → Site → ℕ → ℕ → List Event
site_events q s x g = set_events (format_of q.config) s.unit (table_in q s) (target_at s x g)

-- the answer by what the fuse scans came to; 10: "the fuse scan met an invalid entry"
abbrev pub changed_by : Result (Option ℕ) ℕ → Tally → Result Changed Refusal
changed_by f t = Ok (answer_of f t)

-- 9: "entry at the address invalid". Else "the shattered words and the new granule stored", then what is fused, made in the table; the log
-- with their records over its front. Under refusal 10 the events end before the fuse (`fused` of the crate `theory`).
unfoldable pub site_set : Lent → List ℕ → Site → ℕ → ℕ → Outcome
site_set q L s x g =
    cond ((format_of q.config).valid (at (table_in q s) s.index))
    (record {
      answer = changed_by (fusing (format_of q.config) s.unit (table_in q s) (target_at s x g)) (tally_of (site_events q s x g));
      left = lay_in q s (apply (table_in q s) (stores (site_events q s x g)));
      log = logged s.start 0 (site_events q s x g) L;
    })
    (refused InvalidL1Entry q L)

-- by the place of the address; 6: "set or mend on a valid L0 block". A set with an unknown GPI finds no place.
unfoldable pub set_at : Lent → List ℕ → ℕ → Option Gpi → Result Place Refusal → Outcome
set_at q L x n (Err r) = refused r q L
set_at q L x n (Ok (Block g)) = refused InvalidRequest q L
set_at q L x (Some g) (Ok (Table s)) = site_set q L s x (num g)
set_at q L x None (Ok (Table s)) = refused InvalidRequest q L

-- the set of the address x to the GPI of number g, with the log L lent
unfoldable pub set_of : Lent → List ℕ → ℕ → ℕ → Outcome
set_of q L x g = set_at q L x (gpi_at g) (place_for q (Set (length L) (gpi_at g)) x)
