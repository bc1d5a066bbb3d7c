-- The log says where its granule store stands: the stores that its records before kind 5 tell are those that the set makes before it.
use mathlib.Core.Path.{◌≡◌, refl, sym, ap, ap₂, ◌∙◌}
use mathlib.Core.List.{List, [], ◌∷◌, ◌++◌, append_assoc}
use Prim.Native.Nat.{ℕ, zero, suc, ◌+◌, ◌-◌, ◌*◌, ◌≤◌}
use native.Mathlib.Nat.{zero-add}
use native.Mathlib.Omega.{arith}
use lib.ListN.{length, drop, length-append}
use Rattle.theory.specs.Format.{Format, Laws, gpi}
use Rattle.theory.specs.Normal.{at, span, base}
use Rattle.theory.specs.Stores.{fill}
use Rattle.theory.specs.Events.{Event, filled, granule, barrier, stores, records, logged}
use Rattle.theory.specs.Set.{Target, fill_event, barriers, shatter, breaks, broken, broken_barriers, new_word, lead, store_events, set_events}
use Rattle.theory.proofs.Events.{barrier_number, barrier_tells, stores-append, logged-front}
use Rattle.theory.proofs.Set.{last, stores-barriers, at-most_13}
use Rattle.cut_and_mend.specs.Demand3.{stores_before}

-- no granule store is among these events
abbrev Quiet : List Event → Type 0
Quiet [] = Unit {0}
Quiet (filled a n w ∷ es) = Quiet es
Quiet (barrier k x y ∷ es) = Quiet es
Quiet (granule i j w ∷ es) = ⊥

quiet_append : (a b : List Event) → Quiet a → Quiet b → Quiet (a ++ b)
quiet_append [] b p q = q
quiet_append (filled i n w ∷ a) b p q = quiet_append a b p q
quiet_append (barrier k x y ∷ a) b p q = quiet_append a b p q
quiet_append (granule i j w ∷ a) b p q = absurd p

-- ---- what stands before the granule store is quiet

quiet_fill : (a n w : ℕ) → Quiet (fill_event a n w)
unfolding fill_event
quiet_fill a zero w = tt
quiet_fill a (suc n) w = tt

quiet_shatter : (F : Format) (u g i l : ℕ) → Quiet (shatter F u g i l)
unfolding shatter
quiet_shatter F u g i zero = quiet_fill (base u i) u (F.rep g)
quiet_shatter F u g i (suc l) =
    let n : ℕ = span u l in
    let m : ℕ = span u (suc l) in
    let before : List Event = fill_event (base m i) (base n i - base m i) (F.contig l g) in
    quiet_append (before ++ shatter F u g i l) (fill_event (base n i + n) (base m i + m - (base n i + n)) (F.contig l g))
    (quiet_append before (shatter F u g i l) (quiet_fill (base m i) (base n i - base m i) (F.contig l g)) (quiet_shatter F u g i l))
    (quiet_fill (base n i + n) (base m i + m - (base n i + n)) (F.contig l g))

quiet_broken : (F : Format) (u : ℕ) (t : List ℕ) (i x : ℕ) → Quiet (broken F u t i ++ broken_barriers x (F.size (at t i)))
unfolding broken breaks broken_barriers
quiet_broken F u t i x = go (F.size (at t i))
  where
    go : (s : ℕ) → Quiet (breaks F u (gpi F (at t i)) i s ++ broken_barriers x s)
    go zero = tt
    go (suc l) = quiet_append (shatter F u (gpi F (at t i)) i l) (broken_barriers x (suc l)) (quiet_shatter F u (gpi F (at t i)) i l) tt

-- ---- read from the records' words

length-fill : (a b n w : ℕ) → length (fill a n w) ≡ length (fill b n w)
unfolding fill
length-fill a b zero w = refl
length-fill a b (suc n) w = ap suc (length-fill (suc a) (suc b) n w)

before : (o : ℕ) (a b : List Event) (i j w : ℕ) (rest : List ℕ) → Quiet a
    → stores_before (length (a ++ granule i j w ∷ b)) (records o (a ++ granule i j w ∷ b) ++ rest) ≡ length (stores a)
unfolding stores_before records stores
before o [] b i j w rest q = refl
before o (filled k n v ∷ a) b i j w rest q =
    ap₂ ◌+◌ (length-fill (o + k) k n v) (before o a b i j w rest q) ∙ sym (length-append (fill k n v) (stores a))
before o (barrier k x y ∷ a) b i j w rest q =
    rw ((barrier_number k).1, barrier_tells k x y 0) (zero-add _ ∙ before o a b i j w rest q)
before o (granule k m v ∷ a) b i j w rest q = absurd q

-- ---- THE THEOREM

module _ (F : Format) (L : Laws F) (u : ℕ) (t : List ℕ) (q : Target) (o : ℕ) where
  -- the events in two lots around the granule store
  abbrev first : List Event
  first = broken F u t q.word ++ broken_barriers q.address (F.size (at t q.word))

  abbrev rest : List Event
  rest = barriers q.address q.bytes ++ last F u t q

  around : set_events F u t q ≡ first ++ granule q.word q.granule (new_word F t q) ∷ rest
  unfolding set_events store_events
  around = simp append_assoc

  first-stores : length (stores first) ≡ lead F u t q.word
  unfolding lead
  first-stores =
      rw (
        stores-append (broken F u t q.word) (broken_barriers q.address (F.size (at t q.word))),
        stores-barriers q.address
            (F.size (at t q.word)),
      )
      (length-append (stores (broken F u t q.word)) [] ∙ omega arith)

  pub log-lead : (log : List ℕ) → 52 ≤ length log
      → stores_before (length (set_events F u t q)) (logged o 0 (set_events F u t q) log) ≡ lead F u t q.word
  log-lead log long =
      rw (logged-front o (set_events F u t q) log (omega (arith, at-most_13 F L u t q)))
      (ap (λ (es : List Event). stores_before (length es) (records o es ++ drop (4 * length (set_events F u t q)) log)) around
      ∙ before o first rest q.word q.granule (new_word F t q) (drop (4 * length (set_events F u t q)) log)
      (quiet_broken F u t q.word q.address)
      ∙ first-stores)
