-- Laws of `Journaled` and `Space` of the crate `stores`: no event, one event, events after events; what stays of the lengths, and the room
-- that is left.
use mathlib.Core.Path.{◌≡◌, refl, ap, ◌∙◌}
use mathlib.Core.List.{List, [], ◌∷◌, ◌++◌, append-nil}
use Prim.Native.Nat.{ℕ, zero, suc, ◌+◌, ◌*◌, ◌≤◌, ◌<◌}
use native.Mathlib.Nat.{add-zero}
use native.Mathlib.Omega.{arith}
use lib.ListN.{length, length-append}
use lib.Seq.{sets}
use Rattle.theory.specs.Stores.{apply, fill, Inside}
use Rattle.theory.specs.Events.{Event, filled as Filled, stores_of, stores, count_of, count, record_of, records, logged}
use Rattle.theory.specs.Set.{fill_event}
use Rattle.theory.proofs.Events.{stores-append, logged-append, length-logged}
use Rattle.theory.proofs.Set.{count-append}
use Rattle.theory.proofs.Stores.{each_append, each_fill, apply-append, length-apply}
use Rattle.stores.specs.declared.Tally.{Tally}
use Rattle.stores.specs.declared.Journal.{Journal}
use Rattle.stores.specs.Done.{Done}
use Rattle.stores.specs.Journal.{Same, Journaled, Space}

-- ---- no event, one event

pub nothing : (o : ℕ) (t l : List ℕ) (a : Tally) → Done o [] t t l l a a
unfolding stores apply logged records count
nothing o t l a = record { inside = tt; table = refl; log = refl; records = omega arith; stores = omega arith }

pub none : (j : Journal) → Journaled [] j j
none j = record { same = record { table = refl; log = refl; offset = refl }; done = nothing j.offset j.table.now j.log.now j.tally }

-- what one event stored and logged
module _ {j k : Journal} (s : Same j k) where
  pub one : (e : Event) → Inside (length j.table.now) (stores_of e) → k.table.now ≡ apply j.table.now (stores_of e)
      → k.log.now ≡ sets j.log.now (4 * j.tally.records) (record_of j.offset e)
      → k.tally.records ≡ j.tally.records + 1 → k.tally.stores ≡ j.tally.stores + count_of e → Journaled (e ∷ []) j k
  unfolding stores logged records count
  one e inn p q r c =
      record {
        same = s;
        done = record { inside = rw append-nil inn; table = rw append-nil p; log = rw append-nil q; records = r; stores = rw add-zero c };
      }

  -- a fill
  pub fill_done : (at n w : ℕ) → at + n ≤ length j.table.now → 0 < n → (i : ℕ) → i ≤ n → n ≤ i
      → k.table.now ≡ apply j.table.now (fill at i w)
      → k.log.now ≡ sets j.log.now (4 * j.tally.records) (1 ∷ (j.offset + at) ∷ n ∷ w ∷ [])
      → k.tally.records ≡ j.tally.records + 1 → k.tally.stores ≡ j.tally.stores + n → Journaled (fill_event at n w) j k
  unfolding fill_event
  fill_done at zero w inn pos i up down p q r c = absurd (omega arith)
  fill_done at (suc n) w inn pos i up down p q r c =
      let e : i ≡ suc n = omega arith in
      one (Filled at (suc n) w) (each_fill _ at (suc n) w (λ i lo hi. omega arith)) (rw e at p) q r c

-- ---- events after events

pub after : {o : ℕ} {es fs : List Event} {t t' t'' l l' l'' : List ℕ} {a b d : Tally}
    → Done o es t t' l l' a b → Done o fs t' t'' l' l'' b d → Done o (es ++ fs) t t'' l l'' a d
after {o} {es} {fs} {t} {t'} {t''} {l} {l'} {l''} {a} {b} {d} p q =
    record {
      inside =
          rw (stores-append es fs)
          (each_append _ (stores es) (stores fs) p.inside (rw (ap length p.table ∙ length-apply t (stores es)) at q.inside));
      table = rw (stores-append es fs, apply-append, ← p.table) q.table;
      log = rw (logged-append, ← p.log, ← p.records) q.log;
      records = rw length-append (omega (arith, p.records, q.records));
      stores = rw (count-append es fs) (omega (arith, p.stores, q.stores));
    }

-- and so of a journal
pub later : {es fs : List Event} {i j k : Journal} → Journaled es i j → Journaled fs j k → Journaled (es ++ fs) i k
later x y =
    record {
      same = record { table = y.same.table ∙ x.same.table; log = y.same.log ∙ x.same.log; offset = y.same.offset ∙ x.same.offset };
      done = after x.done (rw x.same.offset at y.done);
    }

-- ---- what stays, and what is left

-- less room is there too
pub less : {j : Journal} {r n : ℕ} (r' n' : ℕ) → Space j r n → r' ≤ r → n' ≤ n → Space j r' n'
less r' n' s x y = record { arena = s.arena; room = omega (arith, s.room); few = omega (arith, s.few) }

module _ {es : List Event} {j k : Journal} (d : Journaled es j k) where
  pub kept_table : length k.table.now ≡ length j.table.now
  kept_table = ap length d.done.table ∙ length-apply j.table.now (stores es)

  pub kept_log : length k.log.now ≡ length j.log.now
  kept_log = ap length d.done.log ∙ length-logged j.offset j.tally.records es j.log.now

  -- of the room for r and n, what these events leave
  pub left : {r n : ℕ} (r' n' : ℕ) → Space j r n → length es + r' ≤ r → count es + n' ≤ n → Space k r' n'
  left r' n' s x y =
      record {
        arena = omega (arith, s.arena, d.same.offset, kept_table);
        room = omega (arith, s.room, d.done.records, kept_log);
        few = omega (arith, s.few, d.done.stores);
      }
