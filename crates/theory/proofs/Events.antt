-- Laws of events: lists of them append, in their stores, their records and on the log; how many stores they make; the log read back tells
-- their stores. Of the crate `theory`.
use mathlib.Core.Path.{◌≡◌, refl, sym, ap, ap₂, ◌∙◌}
use mathlib.Core.Bool.{false}
use mathlib.Core.List.{List, [], ◌∷◌, ◌++◌, append_assoc, map-append}
use Prim.Native.Nat.{ℕ, zero, suc, ◌+◌, ◌*◌, ◌≤◌}
use native.Mathlib.Nat.{add-zero, add-suc, suc-add, zero-add}
use native.Mathlib.Omega.{arith}
use lib.Dec.{eqb}
use lib.ListN.{length, set, drop, length-append}
use lib.Seq.{sets, sets-eq, length-sets}
use Rattle.theory.specs.Stores.{Store, fill, moved, shifted}
use Rattle.theory.specs.Events.{Kind, dsb_oshst, tlbi, dsb_osh, kind_number, Event, filled, granule, barrier, stores_of, stores}
use Rattle.theory.specs.Events.{count_of, count}
use Rattle.theory.specs.Events.{record_of, records, logged, told, read_log}

-- ---- stores

pub stores-append : (a b : List Event) → stores (a ++ b) ≡ stores a ++ stores b
unfolding stores
stores-append [] b = refl
stores-append (e ∷ es) b = rw (stores-append es b) (sym (append_assoc (stores_of e) (stores es) (stores b)))

length-fill : (a n w : ℕ) → length (fill a n w) ≡ n
unfolding fill
length-fill a zero w = refl
length-fill a (suc n) w = ap suc (length-fill (suc a) n w)

length-stores_of : (e : Event) → length (stores_of e) ≡ count_of e
length-stores_of (filled a n w) = length-fill a n w
length-stores_of (granule i j w) = refl
length-stores_of (barrier k x y) = refl

-- the number of stores is the sum of the events': a fill's count, one of a granule store, none of a barrier
pub length-stores : (es : List Event) → length (stores es) ≡ count es
unfolding stores count
length-stores [] = refl
length-stores (e ∷ es) = length-append (stores_of e) (stores es) ∙ ap₂ ◌+◌ (length-stores_of e) (length-stores es)

-- ---- records

pub records-append : (o : ℕ) (a b : List Event) → records o (a ++ b) ≡ records o a ++ records o b
unfolding records
records-append o [] b = refl
records-append o (e ∷ es) b = rw (records-append o es b) (sym (append_assoc (record_of o e) (records o es) (records o b)))

length-record_of : (o : ℕ) (e : Event) → length (record_of o e) ≡ 4
length-record_of o (filled a n w) = refl
length-record_of o (granule i j w) = refl
length-record_of o (barrier k x y) = refl

-- four words to a record
pub length-records : (o : ℕ) (es : List Event) → length (records o es) ≡ 4 * length es
unfolding records
length-records o [] = refl
length-records o (e ∷ es) = rw (length-append (record_of o e) (records o es), length-record_of o e, length-records o es) (omega arith)

-- ---- the log

sets-append : (l : List ℕ) (i : ℕ) (xs ys : List ℕ) → sets l i (xs ++ ys) ≡ sets (sets l i xs) (i + length xs) ys
sets-append l i [] ys = rw add-zero
sets-append l i (x ∷ xs) ys = rw (add-suc, ← suc-add) (sets-append (set l i x) (suc i) xs ys)

-- one lot of events after another
pub logged-append : (o n : ℕ) (a b : List Event) (log : List ℕ) → logged o n (a ++ b) log ≡ logged o (n + length a) b (logged o n a log)
unfolding logged
logged-append o n a b log =
    let e : 4 * n + length (records o a) ≡ 4 * (n + length a) = omega (arith, length-records o a) in
    rw (records-append o a b) (sets-append log (4 * n) (records o a) (records o b)
    ∙ ap (λ (k : ℕ). sets (sets log (4 * n) (records o a)) k (records o b)) e)

pub length-logged : (o n : ℕ) (es : List Event) (log : List ℕ) → length (logged o n es log) ≡ length log
unfolding logged
length-logged o n es log = length-sets log (4 * n) (records o es)

-- from the front: the records, then the words past the last record as they were
pub logged-front : (o : ℕ) (es : List Event) (log : List ℕ) → 4 * length es ≤ length log
    → logged o 0 es log ≡ records o es ++ drop (4 * length es) log
unfolding logged
logged-front o es log h =
    sets-eq (records o es) log 0 (omega (arith, length-records o es)) ∙ rw (zero-add, length-records o es) refl

-- ---- the log read back

shifted-fill : (o a n w : ℕ) → shifted o (fill a n w) ≡ fill (o + a) n w
unfolding fill
shifted-fill o a zero w = refl
shifted-fill o a (suc n) w = ap (λ (r : List Store). record { index = o + a; word = w } ∷ r) (shifted-fill o (suc a) n w ∙ rw add-suc refl)

-- a barrier's number is neither that of a fill nor that of a granule store
pub barrier_number : (k : Kind) → (eqb (kind_number k) 1 ≡ false) × (eqb (kind_number k) 5 ≡ false)
barrier_number dsb_oshst = (refl, refl)
barrier_number tlbi = (refl, refl)
barrier_number dsb_osh = (refl, refl)

-- so its record tells no store
pub barrier_tells : (k : Kind) (x y z : ℕ) → told (kind_number k) x y z ≡ []
barrier_tells k x y z = rw ((barrier_number k).0, (barrier_number k).1, told) refl

records-tell : (o : ℕ) (es : List Event) (rest : List ℕ) → read_log (length es) (records o es ++ rest) ≡ shifted o (stores es)
unfolding read_log records stores
records-tell o [] rest = refl
records-tell o (filled a n w ∷ es) rest =
    ap₂ ◌++◌ (sym (shifted-fill o a n w)) (records-tell o es rest) ∙ sym (map-append (moved o) (fill a n w) (stores es))
records-tell o (granule i j w ∷ es) rest = ap (λ (r : List Store). record { index = o + i; word = w } ∷ r) (records-tell o es rest)
records-tell o (barrier k x y ∷ es) rest = ap₂ ◌++◌ (barrier_tells k x y 0) (records-tell o es rest)

-- a log that holds the records tells the stores, as stores of the arena
pub logged-tells : (o : ℕ) (es : List Event) (log : List ℕ) → 4 * length es ≤ length log
    → read_log (length es) (logged o 0 es log) ≡ shifted o (stores es)
logged-tells o es log h = rw (logged-front o es log h) (records-tell o es (drop (4 * length es) log))
