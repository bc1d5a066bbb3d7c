-- What the functions inside the crate `set_table` ask and promise. No public contract of the library speaks of it.
use Rattle.std.specs.Prelude.{◌≡◌, Option, None, Some, Result, Ok, Err, List, ◌∷◌, ◌++◌, ℕ, ◌+◌, ◌-◌, ◌*◌, ◌≤◌, ◌<◌, ◌^◌, length, set}
use Rattle.gpi.specs.declared.Size.{Size}
use Rattle.theory.specs.Format.{Format}
use Rattle.theory.specs.Normal.{at, span, base}
use Rattle.theory.specs.Events.{Event, granule}
use Rattle.theory.specs.Set.{Target, barriers, climb, fused}
use Rattle.l1.specs.Arm.{level_of}
use Rattle.set_table.specs.declared.Cut.{Cut}

-- the index's aligned 512 MB range lies in the table, and there are 2, 8 or 32 words to 2 MB
pub record Placed (t : List ℕ) (i u : ℕ) : Type 0 where
  pub least : 1 ≤ u
  pub most : u ≤ 32
  pub index : i < length t
  pub inside : base (span u 2) i + span u 2 ≤ length t
  pub small : length t < 2 ^ 62

-- how the range of sixteen parts around i is cut at the part that holds i: "the part before, then the part holding the address by the same
-- rule one size down, then the part after"
pub record Cuts (i part : ℕ) (c : Cut) : Type 0 where
  pub low : c.low ≡ base (16 * part) i
  pub before : c.before ≡ base part i - base (16 * part) i
  pub high : c.high ≡ base part i + part
  pub after : c.after ≡ base (16 * part) i + 16 * part - (base part i + part)

-- what the scans come to, by levels in the place of sizes
abbrev pub leveled : Result (Option Size) ℕ → Result (Option ℕ) ℕ
leveled (Ok None) = Ok None
leveled (Ok (Some s)) = Ok (Some (level_of s))
leveled (Err k) = Err k

-- ---- a set from its granule store on, in a table whose word at the target is one of granules

abbrev pub stored : Format → List ℕ → Target → ℕ
stored F t q = F.put (at t q.word) q.granule q.gpi

abbrev pub scanned : Format → ℕ → List ℕ → Target → Result (Option ℕ) ℕ
scanned F u t q = climb F u (at (set t q.word (stored F t q))) q.gpi q.word 0 (Ok None) 3

abbrev pub grant_events : Format → ℕ → List ℕ → Target → List Event
grant_events F u t q =
    (granule q.word q.granule (stored F t q) ∷ barriers q.address q.bytes)
    ++ fused F u q.gpi q.word (scanned F u t q)
