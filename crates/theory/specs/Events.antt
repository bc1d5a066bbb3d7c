-- Document 01, "Set, step by step", the log: what a set does, in order, as events; their stores; their records, laid over the log; and the
-- log read back by a rule of its own. One definition of each, for the code's contracts and for the theorems. Of the crate `theory`.
use Rattle.std.specs.Prelude.{true, false, List, [], ◌∷◌, ◌++◌, ℕ, zero, suc, ◌+◌, ◌*◌, eqb, drop, get_or}
use Rattle.std.proofs.lemmas.List.Edits.{sets}
use Rattle.theory.specs.Stores.{Store, fill}

-- the kinds of barrier, and their numbers in the log: 2 DSB OSHST, 3 TLBI range, 4 DSB OSH
pub data Kind : Type 0 where
  dsb_oshst tlbi dsb_osh : Kind

abbrev pub kind_number : Kind → ℕ
kind_number dsb_oshst = 2
kind_number tlbi = 3
kind_number dsb_osh = 4

-- what a set does; an index is one of the table
pub data Event : Type 0 where
  -- a fill: index, count, word
  filled : ℕ → ℕ → ℕ → Event
  -- a granule store: index, granule, new word
  granule : ℕ → ℕ → ℕ → Event
  -- a barrier, which stores nothing: a TLBI tells the address as given and the bytes, the others 0 and 0
  barrier : Kind → ℕ → ℕ → Event

abbrev pub stores_of : Event → List Store
stores_of (filled a n w) = fill a n w
stores_of (granule i j w) = record { index = i; word = w } ∷ []
stores_of (barrier k x y) = []

-- the stores of events, in order
unfoldable pub stores : List Event → List Store
stores [] = []
stores (e ∷ es) = stores_of e ++ stores es

-- how many stores an event makes, and events make: "all fill counts plus one" of a set
abbrev pub count_of : Event → ℕ
count_of (filled a n w) = n
count_of (granule i j w) = 1
count_of (barrier k x y) = 0

unfoldable pub count : List Event → ℕ
count [] = 0
count (e ∷ es) = count_of e + count es

-- "records of four words, unused words zero": 1 is a fill, 5 a granule store; o is the arena index of the table
abbrev pub record_of : ℕ → Event → List ℕ
record_of o (filled a n w) = 1 ∷ (o + a) ∷ n ∷ w ∷ []
record_of o (granule i j w) = 5 ∷ (o + i) ∷ j ∷ w ∷ []
record_of o (barrier k x y) = kind_number k ∷ x ∷ y ∷ 0 ∷ []

unfoldable pub records : ℕ → List Event → List ℕ
records o [] = []
records o (e ∷ es) = record_of o e ++ records o es

-- the log with these records laid over it, where n records stand before them
unfoldable pub logged : ℕ → ℕ → List Event → List ℕ → List ℕ
logged o n es log = sets log (4 * n) (records o es)

-- ---- the log read back

-- the stores that a record's four words tell: those of a fill, one of a granule store, none of another
abbrev pub told : ℕ → ℕ → ℕ → ℕ → List Store
told k a n w = elim (eqb k 1) [ true ↦ fill a n w | false ↦ elim (eqb k 5) [ true ↦ record { index = a; word = w } ∷ [] | false ↦ [] ] ]

-- the stores that n records tell
unfoldable pub read_log : ℕ → List ℕ → List Store
read_log zero l = []
read_log (suc n) l = told (get_or l 0 0) (get_or l 1 0) (get_or l 2 0) (get_or l 3 0) ++ read_log n (drop 4 l)
