-- Crate resolve. What a place in a table promises: `proofs/Promises` reads it off the order of refusals.
use Rattle.std.specs.Prelude.{◌≡◌, false, List, ℕ, ◌+◌, ◌*◌, ◌%◌, ◌≤◌, ◌<◌, ◌^◌, length, get_or, Ok, Some}
use Rattle.pa.specs.Pa.{pa}
use Rattle.theory.specs.Normal.{span, base}
use Rattle.l0.specs.L0.{l0_of}
use Rattle.config.specs.declared.Widths.{Widths}
use Rattle.config.specs.Fields.{configured_of}
use Rattle.config.specs.Widths.{Listed}
use Rattle.config.specs.Index.{l0_entries, l0_index}
use Rattle.resolve.specs.declared.Ask.{Ask}
use Rattle.resolve.specs.declared.Site.{Site}
use Rattle.resolve.specs.Refusals.{arena_bad, log_short, gpi_bad}
use Rattle.resolve.specs.Place.{site_of}
use Rattle.l0.specs.declared.L0Entry.TheVariants.{Table}

-- of a site in an arena of n words
pub record Sited (n : ℕ) (s : Site) : Type 0 where
  pub fits : s.start + s.words ≤ n
  pub index : s.index < s.words
  pub granule : s.granule < 16
  pub most : s.words ≤ 2 ^ 23
  pub unit_least : 1 ≤ s.unit
  pub unit_most : s.unit ≤ 32
  -- a table is of whole 512 MB regions, so that of the index lies in it
  pub regions : (m : ℕ) × (s.words ≡ m * span s.unit 2)
  pub region : base (span s.unit 2) s.index + span s.unit 2 ≤ s.words
  pub arena : n < 2 ^ 50

-- of a call that every link let through to its L0 word
pub record Passed (q : Ask) (l : List ℕ) (w : Widths) : Type 0 where
  pub listed : Listed w
  pub enough : l0_entries w ≤ length l
  pub arena : arena_bad q.base.0 q.words ≡ false
  pub long : log_short q.call ≡ false
  pub below : q.address.0 < 2 ^ w.pps
  pub gpi : gpi_bad q.config q.call ≡ false

-- of a call whose address lies in a table: w are the widths, and s the site
pub record Resolved (q : Ask) (l : List ℕ) (w : Widths) (s : Site) : Type 0 where
  pub configured : configured_of q.config ≡ Ok w
  pub passed : Passed q l w
  -- the table's address is the arena's base and eight bytes a word
  pub entry : l0_of (get_or l (l0_index w q.address.0) 0) ≡ Some (Table (pa (q.base.0 + 8 * s.start)))
  pub site : s ≡ site_of q w (q.base.0 + 8 * s.start)
  pub aligned : q.base.0 % 4096 ≡ 0
  pub sited : Sited q.words s
