-- A set of one L1 table, for every input: document 01, "Set, step by step", over the events of the crate `theory` at the Arm format. Of the
-- crate `set_table`.
use Rattle.std.specs.Prelude.{◌≡◌, cond, Option, None, Some, Result, Ok, Err, List, [], ℕ}
use Rattle.gpi.specs.Gpi.{num}
use Rattle.theory.specs.Normal.{at}
use Rattle.theory.specs.Events.{Event}
use Rattle.theory.specs.Set.{Target, fusing, set_events}
use Rattle.l1.specs.Arm.{arm}
use Rattle.stores.specs.declared.Tally.{Tally}
use Rattle.stores.specs.Done.{Done as Happened}
use Rattle.set_table.specs.declared.SetAt.{SetAt}
use Rattle.set_table.specs.declared.Changed.{Changed}
use Rattle.set_table.specs.declared.Changed.TheVariants.{Done, Stopped}

-- what is set, as the theory's target: a GPI by its number
abbrev pub target_of : SetAt → Target
target_of q = record { word = q.index; granule = q.granule; gpi = num q.gpi; address = q.address.0; bytes = q.bytes }

-- the events of a set of the table t
abbrev pub events_of : SetAt → List ℕ → List Event
events_of q t = set_events arm q.unit t (target_of q)

-- the answer by what the fuse scans came to: "the fuse scan met an invalid entry" is refusal 10
abbrev pub answer_of : Result (Option ℕ) ℕ → Tally → Changed
answer_of (Ok m) a = Done a
answer_of (Err k) a = Stopped a

-- "entry at the address invalid" is refusal 9 and changes nothing; else the events happen
abbrev pub happens : SetAt → List ℕ → List Event
happens q t = cond (arm.valid (at t q.index)) (events_of q t) []

abbrev pub answers : SetAt → List ℕ → Tally → Option Changed
answers q t = cond (arm.valid (at t q.index)) (λ a. Some (answer_of (fusing arm q.unit t (target_of q)) a)) (λ a. None)

-- what a call leaves: the events es happened, and nothing else, from the tally a on; and the answer is that of the tally they lead to
pub record Made {R : Type 0} (o : ℕ) (es : List Event) (f : Tally → R) (t t' l l' : List ℕ) (a : Tally) (r : R) : Type 0 where
  pub tally : Tally
  pub done : Happened o es t t' l l' a tally
  pub answer : r ≡ f tally
