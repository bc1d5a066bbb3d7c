-- What a lookup answers, for every input: document 01, "Numbers handed back" and "Words". Demand 3 speaks of this very definition.
use Rattle.std.specs.Prelude.{cond, ℕ, Option, Some, None, Result, Ok, Err}
use Rattle.gpi.specs.declared.Gpi.{Gpi}
use Rattle.gpi.specs.Gpi.{num}
use Rattle.theory.specs.Normal.{at}
use Rattle.l1.specs.L1.{read_at}
use Rattle.config.specs.declared.Config.{Config}
use Rattle.config.specs.Fields.{supported_of}
use Rattle.resolve.specs.declared.Place.{Place}
use Rattle.resolve.specs.declared.Place.TheVariants.{Block, Table}
use Rattle.resolve.specs.declared.Refusal.{Refusal}
use Rattle.resolve.specs.declared.Refusal.TheVariants.{InvalidL0Entry, InvalidL1Entry}
use Rattle.resolve.specs.declared.Site.{Site}
use Rattle.resolve.specs.Refusals.{refusal_number}
use Rattle.resolve.specs.Lent.{Lent, placed, table_in}

-- the paper's number of each case, and its GPI's: "A refused lookup hands back no GPI", which is told as 0
abbrev pub looked_number : Result Gpi Refusal → ℕ
looked_number (Ok g) = 0
looked_number (Err r) = refusal_number r

abbrev pub looked_gpi : Result Gpi Refusal → ℕ
looked_gpi (Ok g) = num g
looked_gpi (Err r) = 0

-- "an unsupported GPI reads as valid and is refused at lookup", by the number of the table that it was read in
abbrev pub granted : Config → Gpi → Refusal → Result Gpi Refusal
granted c g r = cond (supported_of c g) (Ok g) (Err r)

-- 9: "entry at the address invalid; lookup: unsupported GPI". The word is valid throughout or not at all; support is asked of the one
-- granule.
abbrev pub judged : Config → Option Gpi → Result Gpi Refusal
judged c (Some g) = granted c g InvalidL1Entry
judged c None = Err InvalidL1Entry

-- what is read at a site: the granule of the address's word in its table
abbrev pub read_in : Lent → Site → Option Gpi
read_in q s = read_at (at (table_in q s) s.index) s.granule

-- by the place of the address; 7: "lookup on a block of unsupported GPI"
unfoldable pub looked_at : Lent → Result Place Refusal → Result Gpi Refusal
looked_at q (Err r) = Err r
looked_at q (Ok (Block g)) = granted q.config g InvalidL0Entry
looked_at q (Ok (Table s)) = judged q.config (read_in q s)

-- the lookup of the address x
unfoldable pub lookup_of : Lent → ℕ → Result Gpi Refusal
lookup_of q x = looked_at q (placed q x)
