-- Demand 3: a set cut after any number of its stores, and mends of what the cut left. The premises and the claim, over the definitions that
-- the contracts of lookup, set, mend and check cite; `proofs/Demand3` has the theorem. The demand's words are quoted where they are said.
use Rattle.std.specs.Prelude.{◌≡◌, ◌≢◌, cond, List, [], ◌∷◌, ◌++◌, map, ℕ, zero, suc, ◌+◌, ◌*◌, ◌/◌, ◌≤◌, ◌<◌, ◌^◌, eqb, leb, length, get_or, drop}
use Rattle.std.specs.Prelude.{Ok, Some, true}
use Rattle.gpi.specs.declared.Gpi.{Gpi}
use Rattle.gpi.specs.declared.Size.{Size}
use Rattle.gpi.specs.declared.Size.TheVariants.{MB2}
use Rattle.pa.specs.Pa.{pa}
use Rattle.theory.specs.Normal.{at, In, normal}
use Rattle.theory.specs.Stores.{cut}
use Rattle.theory.specs.Arena.{table_at}
use Rattle.theory.specs.Events.{told, read_log}
use Rattle.theory.specs.Set.{Agrees, changed_flat}
use Rattle.l0.specs.declared.L0Entry.TheVariants.{Table as L0Table}
use Rattle.l0.specs.L0.{l0_of}
use Rattle.l1.specs.declared.L1Entry.TheVariants.{Contiguous}
use Rattle.l1.specs.L1.{l1_of, read_at}
use Rattle.config.specs.declared.Widths.{Widths}
use Rattle.config.specs.Fields.{configured_of}
use Rattle.config.specs.Index.{l0_entries, l0_index, l1_words, l1_index, granule_bytes, size_words}
use Rattle.config.specs.Format.{format_of}
use Rattle.resolve.specs.declared.Site.{Site}
use Rattle.resolve.specs.declared.Place.TheVariants.{Table}
use Rattle.resolve.specs.Lent.{Lent, over, placed, table_in, lay_in, Names}
use Rattle.gpt.specs.Lookup.{lookup_of, looked_number, looked_gpi}
use Rattle.gpt.specs.Set.{Outcome, changed_records, changed_stores, target_at}
use Rattle.mend.specs.Outcome.{check_of}
use Rattle.mend.specs.Mends.{Mend, AllName, Mending}

-- ---- THE PREMISES

-- "a set that answers 0 or 10"
pub data Answers0or10 (n : ℕ) : Type 0 where
  answers-0 : n ≡ 0 → Answers0or10 n
  answers-10 : n ≡ 10 → Answers0or10 n

-- the L0 entry e names an L1 table, and it lies wholly inside the arena, from its word o on. A table that doesn't has no word that a call
-- reads or writes: lookups, sets and mends there are refused (8).
pub record TableAt (w : Widths) (q : Lent) (e o : ℕ) : Type 0 where
  pub entry : e < l0_entries w
  pub names : l0_of (get_or q.l0 e 0) ≡ Some (L0Table (pa (q.base + 8 * o)))
  pub inside : o + l1_words w ≤ length q.arena

-- the arena's word k is one of the table from the word o on
pub record Holds (w : Widths) (o k : ℕ) : Type 0 where
  pub from : o ≤ k
  pub to : k < o + l1_words w

-- "no two L0 entries' L1 tables share a word": entries whose tables have a word in common are one entry
pub record Apart (w : Widths) (q : Lent) : Type 0 where
  pub apart : (e f o p k : ℕ) → TableAt w q e o → TableAt w q f p → Holds w o k → Holds w p k → e ≡ f

-- "each contiguous entry agrees with every entry in its range", by document 01: "A contiguous entry agrees if every word in its aligned
-- range is valid and reads its GPI in all sixteen granules". The entry at i of the table t.
pub record EntryAgrees (w : Widths) (t : List ℕ) (i : ℕ) : Type 0 where
  pub agrees : (g : Gpi) (s : Size) → l1_of (at t i) ≡ Some (Contiguous g s) → (k : ℕ) → In (size_words w s) i k
      → (n : ℕ) → n < 16 → read_at (at t k) n ≡ Some g

-- "Take any tables where no two L0 entries' L1 tables share a word and each contiguous entry agrees with every entry in its range." Words
-- are of 64 bits, as every lent word is.
pub record Tables (q : Lent) : Type 0 where
  pub apart : (w : Widths) → configured_of q.config ≡ Ok w → Apart w q
  pub agree : (w : Widths) → configured_of q.config ≡ Ok w → (e o : ℕ) → TableAt w q e o → (i : ℕ) → i < l1_words w
      → EntryAgrees w (table_at o (l1_words w) q.arena) i
  pub words : (k : ℕ) → at q.arena k < 2 ^ 64

-- What of it the theorem asks: that the table of the address x shares no word with another entry's, and that the one entry at x agrees.
pub record Ready (q : Lent) (x : ℕ) : Type 0 where
  pub apart : (w : Widths) → configured_of q.config ≡ Ok w → (o f p k : ℕ) → TableAt w q (l0_index w x) o → TableAt w q f p
      → Holds w o k → Holds w p k → l0_index w x ≡ f
  pub agree : (w : Widths) → configured_of q.config ≡ Ok w → (o : ℕ) → TableAt w q (l0_index w x) o
      → Agrees (format_of q.config) (size_words w MB2) (table_at o (l1_words w) q.arena) (l1_index w x)

-- ---- THE CUT

-- "Cut a set … after any number of its stores": what was lent, with the first k stores made that the log tells, read back from the log's
-- words
abbrev pub cut_after : ℕ → Lent → Outcome → Lent
cut_after k q o = over q (cut k q.arena (read_log (changed_records o.answer) o.log))

-- the stores that n records tell before the first that is a granule store, kind 5
unfoldable pub stores_before : ℕ → List ℕ → ℕ
stores_before zero l = 0
stores_before (suc n) l =
    cond (eqb (get_or l 0 0) 5) 0 (length (told (get_or l 0 0) (get_or l 1 0) (get_or l 2 0) (get_or l 3 0)) + stores_before n (drop 4 l))

-- the stores before the granule store, by the log: a cut after k stores came before it exactly if k is no more
abbrev pub granule_store_after : Outcome → ℕ
granule_store_after o = stores_before (changed_records o.answer) o.log

-- "of the old granules if the cut came before the granule store, else of the new": the flat words of the site's table as it was lent, or
-- these with the granule of the address x made g
abbrev pub granules_after : ℕ → Outcome → Lent → Site → ℕ → ℕ → List ℕ
granules_after k o q s x g =
    cond (leb k (granule_store_after o)) (map (format_of q.config).flat (table_in q s))
    (changed_flat (format_of q.config) (table_in q s) (target_at s x g))

-- "the one normal table" of these granules
abbrev pub normal_after : ℕ → Outcome → Lent → Site → ℕ → ℕ → List ℕ
normal_after k o q s x g = normal (format_of q.config) s.unit (granules_after k o q s x g)

-- ---- THE CLAIM

-- of a set of the address x to the GPI of number g that was lent q and left the outcome o. At every k: k stores are made. What lookups,
-- mends and checks are lent after it is q with another arena.
pub record Demand3 (q : Lent) (x g : ℕ) (o : Outcome) : Type 0 where
  -- the configuration's widths, and the target's place: it lies in an L1 table
  pub widths : Widths
  pub configured : configured_of q.config ≡ Ok widths
  pub site : Site
  pub place : placed q x ≡ Ok (Table site)
  -- the log is no tale: with all its stores made the arena is the one that the set leaves, and the granule store is one of them
  pub all_made : (k : ℕ) → changed_stores o.answer ≤ k → cut_after k q o ≡ o.left
  pub granule_store_made : granule_store_after o < changed_stores o.answer
  -- "Every address outside the target granule looks up as before": every address, and the whole answer, refusals included
  pub outside : (k y : ℕ) → y / granule_bytes widths ≢ x / granule_bytes widths → lookup_of (cut_after k q o) y ≡ lookup_of q y
  -- "the target answers old before the granule store,"
  pub old : (k y : ℕ) → y / granule_bytes widths ≡ x / granule_bytes widths → k ≤ granule_store_after o
      → lookup_of (cut_after k q o) y ≡ lookup_of q y
  -- "new from it on": the number 0, and g
  pub new_number : (k y : ℕ) → y / granule_bytes widths ≡ x / granule_bytes widths → granule_store_after o < k
      → looked_number (lookup_of (cut_after k q o) y) ≡ 0
  pub new_gpi : (k y : ℕ) → y / granule_bytes widths ≡ x / granule_bytes widths → granule_store_after o < k
      → looked_gpi (lookup_of (cut_after k q o) y) ≡ g
  -- "A mend of the target's L1 table then gives, byte for byte, the one normal table: of the old granules if the cut came before the
  -- granule store, else of the new; also if mends are cut anywhere and run again": after mends of any limits, one whose limit is at least
  -- the table's words. The rest of the arena is the lent one.
  pub mended : (k : ℕ) (ms : List Mend) (m : Mend) → AllName widths x (ms ++ m ∷ []) → l1_words widths ≤ m.limit
      → Mending (cut_after k q o) (ms ++ m ∷ []) (lay_in q site (normal_after k o q site x g))
  -- the check says yes to it,
  pub checked : (k y : ℕ) → Names widths x y → check_of (lay_in q site (normal_after k o q site x g)) y ≡ Ok true
  -- and it is "the one": a table T of these granules to which the check says yes is that table
  pub the_one : (k y : ℕ) → Names widths x y → (T : List ℕ) → map (format_of q.config).flat T ≡ granules_after k o q site x g
      → check_of (lay_in q site T) y ≡ Ok true → T ≡ normal_after k o q site x g
