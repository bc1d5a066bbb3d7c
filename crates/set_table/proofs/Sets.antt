-- What holds between the calls of a set, at any format that has the laws; and the two kinds of valid entry. Of the crate
-- `set_table`.
use mathlib.Core.Bool.{true}
use mathlib.Core.Path.{◌≡◌, refl, sym, ap, ap₂, ◌∙◌}
use mathlib.Core.List.{List, [], ◌∷◌, ◌++◌, append_assoc, append-nil}
use Prim.Native.Nat.{ℕ, suc, ◌+◌, ◌*◌, ◌%◌, ◌≤◌, ◌<◌}
use native.Mathlib.Nat.{zero-add}
use native.Mathlib.Omega.{arith}
use lib.ListN.{length, set}
use Rattle.std.specs.Prelude.{Option, None, Some, Result, Ok}
use Rattle.gpi.specs.declared.Gpi.{Gpi}
use Rattle.gpi.specs.declared.Size.{Size}
use Rattle.gpi.specs.declared.Size.TheVariants.{MB2, MB32, MB512}
use Rattle.gpi.specs.Gpi.{num}
use Rattle.gpi.specs.Size.{bytes_of}
use Rattle.gpi.proofs.Rules.{num-lt}
use Rattle.theory.specs.Format.{Format, Laws, gpi}
use Rattle.theory.specs.Normal.{at, span}
use Rattle.theory.specs.Stores.{apply}
use Rattle.theory.specs.Events.{Event, granule, stores, count}
use Rattle.theory.specs.Set.{Target, barriers, bytes, shatter, breaks, broken, broken_barriers, new_word, changed, climb, fusing, fused}
use Rattle.theory.specs.Set.{store_events, set_events}
use Rattle.theory.proofs.Events.{stores-append}
use Rattle.theory.proofs.Set.{stores-barriers, broken-at}
use Rattle.granules.specs.Packed.{repeated}
use Rattle.l1.specs.declared.L1Entry.{L1Entry}
use Rattle.l1.specs.declared.L1Entry.TheVariants.{Contiguous, Granules}
use Rattle.l1.specs.L1.{l1_of, flat_of}
use Rattle.l1.specs.Arm.{arm, level_of, valid_of, size_of}
use Rattle.l1.proofs.Arm.{level_num}
use Rattle.stores.specs.declared.Tally.{Tally}
use Rattle.stores.specs.declared.Journal.{Journal}
use Rattle.stores.specs.Done.{Done, fresh, tally_of}
use Rattle.stores.specs.Journal.{Journaled, Space}
use Rattle.stores.proofs.Events.{none, later, left}
use Rattle.set_table.specs.declared.Changed.{Changed}
use Rattle.set_table.specs.declared.SetAt.{SetAt}
use Rattle.set_table.specs.Table.{target_of, answer_of, Made}
use Rattle.set_table.specs.Inner.{stored, scanned, grant_events}

-- events from a fresh tally: the counts are those of the events
pub tally_is : {o : ℕ} {es : List Event} {t t' l l' : List ℕ} {a : Tally} → Done o es t t' l l' fresh a → a ≡ tally_of es
tally_is {o} {es} d = λ i. record { records = (d.records ∙ zero-add (length es)) i; stores = (d.stores ∙ zero-add (count es)) i }

clean : {a : Tally} → (a.records ≡ 0) × (a.stores ≡ 0) → a ≡ fresh
clean z = λ i. record { records = z.0 i; stores = z.1 i }

-- ---- from the granule store on

pub barriers_room : (n : ℕ) {i g w : ℕ} {j j₁ : Journal} → Space j 5 (1 + n) → Journaled (granule i g w ∷ []) j j₁
    → 4 * (j₁.tally.records + 3) ≤ length j₁.log.now
unfolding count
barriers_room n r y = (left y 3 0 r (omega arith) (omega arith)).room

pub fuse_room : (n : ℕ) {i g w x b : ℕ} {j j₁ j₂ : Journal} → Space j 5 (1 + n) → Journaled (granule i g w ∷ []) j j₁
    → Journaled (barriers x b) j₁ j₂ → Space j₂ 1 n
unfolding count
fuse_room n r y z = left z 1 n (left y 4 n r (omega arith) (omega arith)) (omega arith) (omega arith)

module _ (F : Format) (u : ℕ) (q : Target) where
  -- what the scans of a table come to
  abbrev scans : List ℕ → Result (Option ℕ) ℕ
  scans t = climb F u (at t) q.gpi q.word 0 (Ok None) 3

  -- where the scans of the table later the barriers come to m
  module _ {j j₁ j₂ : Journal} (w : ℕ) (m : Result (Option ℕ) ℕ) (is : w ≡ stored F j.table.now q)
      (x : Journaled (granule q.word q.granule w ∷ []) j j₁) (y : Journaled (barriers q.address q.bytes) j₁ j₂) (f : m ≡ scans j₂.table.now) where
    pub grant_scanned : m ≡ scanned F u j.table.now q
    unfolding stores apply
    grant_scanned = f ∙ ap scans (y.done.table ∙ x.done.table ∙ ap (set j.table.now q.word) is)

    pub grant : {k : Journal} → Journaled (fused F u q.gpi q.word m) j₂ k → Journaled (grant_events F u j.table.now q) j k
    grant z = rw (← grant_scanned, ← is) (later (later x y) z)

-- ---- before the granule store

module _ (F : Format) (u : ℕ) (t : List ℕ) (q : Target) where
  abbrev pub before : List Event
  before = broken F u t q.word ++ broken_barriers q.address (F.size (at t q.word))

  pub granules_done : (j : Journal) → F.size (at t q.word) ≡ 0 → Journaled before j j
  unfolding broken breaks broken_barriers
  granules_done j e = rw e (none j)

  pub contiguous_is : (g k : ℕ) → gpi F (at t q.word) ≡ g → F.size (at t q.word) ≡ suc k
      → shatter F u g q.word k ++ barriers q.address (bytes k) ≡ before
  unfolding broken breaks broken_barriers
  contiguous_is g k x y = rw (x, y) refl

-- ---- the whole

module _ (F : Format) (L : Laws F) (u : ℕ) (pos : 0 < u) {i j : Journal} (q : Target) (i< : q.word < length i.table.now)
    (d : Journaled (before F u i.table.now q) i j) where
  abbrev t : List ℕ
  t = i.table.now

  broken-is : j.table.now ≡ apply t (stores (broken F u t q.word))
  broken-is =
      d.done.table ∙ ap (apply t) (stores-append (broken F u t q.word) (broken_barriers q.address (F.size (at t q.word)))
      ∙ rw (stores-barriers q.address (F.size (at t q.word))) (append-nil _))

  stored_is : stored F j.table.now q ≡ new_word F t q
  unfolding new_word
  stored_is =
      ap (λ (w : ℕ). F.put w q.granule q.gpi) (ap (λ (v : List ℕ). at v q.word) broken-is ∙ broken-at F L u pos t q.word i<)

  scanned-is : scanned F u j.table.now q ≡ fusing F u t q
  unfolding fusing changed
  scanned-is = ap (scans F u q) (ap₂ (λ (v : List ℕ) (w : ℕ). set v q.word w) broken-is stored_is)

  events-are : before F u t q ++ grant_events F u j.table.now q ≡ set_events F u t q
  unfolding set_events store_events
  events-are =
      rw (scanned-is, stored_is)
      (sym (append_assoc (before F u t q) (granule q.word q.granule (new_word F t q) ∷ barriers q.address q.bytes) _))

  pub finish : {k : Journal} {r : Changed} {t' l' : List ℕ} → Journaled (grant_events F u j.table.now q) j k
      → r ≡ answer_of (scanned F u j.table.now q) k.tally → (i.tally.records ≡ 0) × (i.tally.stores ≡ 0) → t' ≡ k.table.now → l' ≡ k.log.now
      → Made i.offset (set_events F u t q) (λ a. Some (answer_of (fusing F u t q) a)) t t' i.log.now l' fresh (Some r)
  finish {k} m e z x y =
      rw (x, y)
      record {
        tally = k.tally;
        done = rw (← events-are, ← clean z) (later d m).done;
        answer = ap Some (e ∙ ap (λ (f : Result (Option ℕ) ℕ). answer_of f k.tally) scanned-is);
      }

-- ---- the two kinds of valid entry

pub valid_entry : (w : ℕ) (e : L1Entry) → l1_of w ≡ Some e → arm.valid w ≡ true
valid_entry w (Contiguous h s) e = ap valid_of e
valid_entry w Granules e = ap valid_of e

-- a contiguous entry of the Arm format: its size code, its GPI, its bytes
module _ (w : ℕ) (h : Gpi) (s : Size) (e : l1_of w ≡ Some (Contiguous h s)) where
  pub size_is : arm.size w ≡ suc (level_of s)
  size_is = ap size_of e ∙ level_num s

  pub gpi-is : gpi arm w ≡ num h
  gpi-is = let low : repeated (num h) % 16 ≡ num h = omega (arith, num-lt h) in ap (λ (x : Option L1Entry). flat_of x w % 16) e ∙ low

pub bytes-are : (s : Size) → bytes (level_of s) ≡ bytes_of s
unfolding span
bytes-are s = elim s as (λ k. bytes (level_of k) ≡ bytes_of k) [ MB2 ↦ refl | MB32 ↦ refl | MB512 ↦ refl ]

-- what happened before the granule store, where m is the journal then
module _ (q : SetAt) where
  pub broken_up : {j k m : Journal} (h : Gpi) (s : Size) → l1_of (at j.table.now q.index) ≡ Some (Contiguous h s) → m ≡ k
      → Journaled (shatter arm q.unit (num h) q.index (level_of s) ++ barriers q.address.0 (bytes_of s)) j k
      → Journaled (before arm q.unit j.table.now (target_of q)) j m
  broken_up {j} h s e x d =
      let b = contiguous_is arm q.unit j.table.now (target_of q) (num h) (level_of s) (gpi-is _ h s e) (size_is _ h s e) in
      rw (x, ← b, bytes-are s) d

  pub as_granules : {j m : Journal} (e : L1Entry) → l1_of (at j.table.now q.index) ≡ Some e
      → ((h : Gpi) (s : Size) → e ≡ Contiguous h s → ⊥) → m ≡ j → Journaled (before arm q.unit j.table.now (target_of q)) j m
  as_granules (Contiguous h s) e n x = absurd (n h s refl)
  as_granules {j} Granules e n x = rw x (granules_done arm q.unit j.table.now (target_of q) j (ap size_of e))
