-- A place in a table, which is a part of the arena: it was found, what the table's set asks is there, and what the set made in the table is
-- made in the arena.
use mathlib.Core.Path.{◌≡◌, refl, sym, ap, ◌∙◌}
use mathlib.Core.Bool.{Bool, true, false}
use mathlib.Core.List.{List}
use Prim.Native.Nat.{ℕ, ◌+◌, ◌*◌, ◌≤◌}
use native.Mathlib.Nat.{add-sub_cancel_left}
use native.Mathlib.Omega.{arith}
use borrow.Author.Tests.{ltb-false}
use borrow.Rule.Slice.PartMut.{put_same}
use lib.ListN.{length}
use Rattle.std.specs.Prelude.{Option, Result, Ok, ok_or}
use Rattle.gpi.specs.declared.Gpi.{Gpi}
use Rattle.gpi.specs.Gpi.{num}
use Rattle.theory.specs.Normal.{at, span}
use Rattle.theory.specs.Stores.{apply}
use Rattle.theory.specs.Events.{stores, records, logged}
use Rattle.theory.specs.Set.{fusing}
use Rattle.theory.specs.Arena.{table_at, laid}
use Rattle.theory.proofs.Arena.{length-table}
use Rattle.l1.specs.Arm.{arm}
use Rattle.config.specs.declared.Config.{Config}
use Rattle.resolve.specs.declared.Ask.{Ask}
use Rattle.resolve.specs.declared.Call.TheVariants.{Set}
use Rattle.resolve.specs.declared.Place.{Place}
use Rattle.resolve.specs.declared.Place.TheVariants.{Table}
use Rattle.resolve.specs.declared.Refusal.{Refusal}
use Rattle.resolve.specs.declared.Refusal.TheVariants.{InvalidL1Entry}
use Rattle.resolve.specs.declared.Site.{Site}
use Rattle.resolve.specs.Place.{asks, place_of}
use Rattle.resolve.specs.Sited.{Sited}
use Rattle.resolve.specs.Lent.{lent}
use Rattle.resolve.proofs.Promises.{resolved}
use Rattle.stores.specs.Done.{Room, fresh}
use Rattle.set_table.specs.declared.Changed.{Changed}
use Rattle.set_table.specs.Inner.{Placed}
use Rattle.set_table.specs.Table.{happens, answers}
use Rattle.set_table.specs.Table.{Made as TableMade}
use Rattle.set_table.proofs.Sets.{tally_is}
use Rattle.gpt.specs.Inner.{set_on}
use Rattle.gpt.specs.Set.{Made, changed_by, target_at, site_set}

-- the part of the arena that is a site's table, as the code has it
pub ruleset part = (add-sub_cancel_left, length-table)

-- a call that finds a place in a table has a site that fits the arena,
pub sited_at : (q : Ask) (l : List ℕ) {p : Result Place Refusal} {f : Place} {s : Site}
    → p ≡ place_of q l → p ≡ Ok f → f ≡ Table s → Sited q.words s
sited_at q l h e i = (resolved q l _ (sym h ∙ e ∙ ap (λ (t : Place). Ok t) i)).1.sited

-- and a set's log is long enough
pub long_at : (c : Config) (n b k : ℕ) (g : Option Gpi) (x : ℕ) (l : List ℕ) (p : Result Place Refusal) (f : Place) (s : Site)
    → p ≡ place_of (asks c n b (Set k g) x) l → p ≡ Ok f → f ≡ Table s → 52 ≤ k
long_at c n b k g x l p f s h e i =
    ltb-false _ _ (resolved (asks c n b (Set k g) x) l s (sym h ∙ e ∙ ap (λ (t : Place). Ok t) i)).1.passed.long

span-most : (u : ℕ) → u ≤ 32 → span u 2 ≤ 8192
unfolding span
span-most u h = omega arith

module _ (A L : List ℕ) {s : Site} (x : ℕ) (g : Gpi) (h : Sited (length A) s) where
  abbrev table : List ℕ
  table = table_at s.start s.words A

  long : length (table_at s.start s.words A) ≡ s.words
  long = length-table s.start s.words A h.fits

  pub placed : Placed table s.index s.unit
  placed =
      record {
        least = h.unit_least;
        most = h.unit_most;
        index = omega (arith, long, h.index);
        inside = omega (arith, long, h.region);
        small = omega (arith, long, h.most);
      }

  pub roomy : 52 ≤ length L → Room table L s.start fresh 13 (2 * span s.unit 2 + 1)
  roomy l =
      record {
        arena = omega (arith, long, h.fits, h.arena);
        room = omega arith;
        few = omega (arith, span-most s.unit h.unit_most);
      }

  -- what the set of the table made is what the set of the site makes
  pub made : {p L' : List ℕ} {a : Option Changed} {r : Result Changed Refusal}
      → TableMade s.start (happens (set_on s x g) table) (answers (set_on s x g) table) table p L L' fresh a
      → r ≡ ok_or a InvalidL1Entry
      → (c : Config) (l : List ℕ) (b : ℕ) → Made (site_set (lent c l A b) L s x (num g)) r (laid s.start s.words A p) L'
  unfolding site_set apply stores logged records
  made {p} {L'} {a} {r} m e c l b = go (arm.valid (at table s.index)) refl
    where
      go : (v : Bool) → arm.valid (at table s.index) ≡ v
          → Made (site_set (lent c l A b) L s x (num g)) r (laid s.start s.words A p) L'
      go true v =
          let n = rw v at m in
          let d = n.done in
          rw v record {
            answer =
                e ∙ ap (λ (o : Option Changed). ok_or o InvalidL1Entry) n.answer
                ∙ ap (changed_by (fusing arm s.unit table (target_at s x (num g)))) (tally_is d);
            arena = ap (laid s.start s.words A) d.table;
            log = d.log;
          }
      go false v =
          let n = rw v at m in
          let d = n.done in
          rw v record {
            answer = e ∙ ap (λ (o : Option Changed). ok_or o InvalidL1Entry) n.answer;
            arena = ap (laid s.start s.words A) d.table ∙ put_same s.start s.words A;
            log = d.log;
          }
