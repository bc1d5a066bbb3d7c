-- The log tells the stores: read back from its own words it gives the stores of the set, in the arena. Of the crate `theory`.
use mathlib.Core.Path.{◌≡◌, ◌∙◌}
use mathlib.Core.List.{List}
use Prim.Native.Nat.{ℕ, ◌+◌, ◌*◌, ◌≤◌, ◌<◌}
use native.Mathlib.Omega.{arith}
use lib.ListN.{length}
use Rattle.theory.specs.Format.{Format, Laws}
use Rattle.theory.specs.Normal.{span}
use Rattle.theory.specs.Stores.{cut, shifted}
use Rattle.theory.specs.Arena.{table_at, laid}
use Rattle.theory.specs.Events.{logged, read_log}
use Rattle.theory.specs.Set.{Target, set_events, set_stores}
use Rattle.theory.proofs.Arena.{length-table, cut-part}
use Rattle.theory.proofs.Events.{logged-tells}
use Rattle.theory.proofs.Set.{inside_set, at-most_13}

-- A log of at least 52 words holds the records of any set, and tells its stores, each at its arena index; o is the table's.
pub log-tells : (F : Format) → Laws F → (u : ℕ) (t : List ℕ) (q : Target) (o : ℕ) (log : List ℕ) → 52 ≤ length log
    → read_log (length (set_events F u t q)) (logged o 0 (set_events F u t q) log) ≡ shifted o (set_stores F u t q)
log-tells F L u t q o log long = logged-tells o (set_events F u t q) log (omega (arith, at-most_13 F L u t q))

-- a set in the table t that stands in the arena A at o, of n words, m ranges of 512 MB
module _ (F : Format) (L : Laws F) (u : ℕ) (u-pos : 0 < u) (A : List ℕ) (o n : ℕ) (fits : o + n ≤ length A) (m : ℕ)
    (regions : n ≡ m * span u 2)
    (q : Target) (i< : q.word < n) (log : List ℕ) (long : 52 ≤ length log) where
  abbrev t : List ℕ
  t = table_at o n A

  -- The arena after the first k stores that the log tells is the arena with the table cut after the first k stores of the set.
  pub arena_cut : (k : ℕ)
      → cut k A (read_log (length (set_events F u t q)) (logged o 0 (set_events F u t q) log)) ≡ laid o n A (cut k t (set_stores F u t q))
  arena_cut k =
      let e : length t ≡ n = length-table o n A fits in
      rw (log-tells F L u t q o log long)
      (cut-part o n A fits (set_stores F u t q) (rw e at (inside_set F u t q L u-pos m (e ∙ regions) (rw e i<))) k)
