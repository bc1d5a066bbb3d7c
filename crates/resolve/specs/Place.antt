-- Crate resolve. Document 01, "Numbers handed back": the refusals 1 to 8 in their order, once for every call, and where an address lies.
use Rattle.std.specs.Prelude.{cond, List, ℕ, ◌-◌, ◌/◌, ◌^◌, ltb, leb, length, get_or, take, drop, Err, None, Ok, Option, Result, Some}
use Rattle.gpi.specs.declared.Size.TheVariants.{MB2}
use Rattle.pa.specs.Pa.{pa}
use Rattle.l0.specs.L0.{l0_of}
use Rattle.config.specs.declared.Config.{Config}
use Rattle.config.specs.declared.Widths.{Widths}
use Rattle.config.specs.Fields.{configured_of}
use Rattle.config.specs.Index.{l0_entries, l0_index, l1_words, l1_index, granule_index, granule_bytes, size_words}
use Rattle.config.specs.declared.ConfigError.{ConfigError}
use Rattle.resolve.specs.declared.Refusal.TheVariants.{InvalidRequest, InvalidL0Entry, OutsideArena}
use Rattle.resolve.specs.declared.Call.{Call}
use Rattle.resolve.specs.declared.Ask.{Ask}
use Rattle.resolve.specs.declared.Site.{Site}
use Rattle.l0.specs.declared.L0Entry.{L0Entry}
use Rattle.l0.specs.declared.L0Entry.TheVariants.{Block as L0Block, Table as L0Table}
use Rattle.resolve.specs.declared.Place.{Place}
use Rattle.resolve.specs.Refusals.{config_refusal, arena_bad, log_short, gpi_bad, outside}
use Rattle.resolve.specs.declared.Refusal.TheVariants.{FewL0Words, BadArena, ShortLog}
use Rattle.resolve.specs.declared.Refusal.{Refusal}
use Rattle.resolve.specs.declared.Place.TheVariants.{Block, Table}

-- ---- what a call asks: n words of the arena from b, the call, the address x

abbrev pub asks : Config → ℕ → ℕ → Call → ℕ → Ask
asks c n b call x = record { config = c; words = n; base = pa b; address = pa x; call = call }

-- ---- the place of an address in the table that starts at a

unfoldable pub site_of : Ask → Widths → ℕ → Site
site_of q w a =
    record {
      start = (a - q.base.0) / 8;
      words = l1_words w;
      index = l1_index w q.address.0;
      granule = granule_index w q.address.0;
      unit = size_words w MB2;
      bytes = granule_bytes w;
    }

-- the L1 table: these words of the arena
abbrev pub table_of : Site → List ℕ → List ℕ
table_of s A = take s.words (drop s.start A)

-- ---- the order

-- 1, 2, 1 in the configuration's own order
abbrev pub configured : Result Widths ConfigError → (Widths → Result Place Refusal) → Result Place Refusal
configured (Ok w) next = next w
configured (Err e) next = Err (config_refusal e)

-- 7: "L0 word neither valid block nor table"; what a valid block means is for the call to say
abbrev pub entered : Option L0Entry → (ℕ → Result Place Refusal) → Result Place Refusal
entered (Some (L0Block g)) next = Ok (Block g)
entered (Some (L0Table a)) next = next a.0
entered None next = Err InvalidL0Entry

-- "Order: field values (1), 2, widths (1), 3, 4, 5, address (6), GPI known then supported (6), L0 word (7, or 6 for a block), 8": a test
-- that is met refuses, else the next line goes on. Of the lent L0 words only the entry of an address below 2^PPS is read, so that surplus
-- words are not.
unfoldable pub located : Ask → List ℕ → Widths → Result Place Refusal
located q l w =
    -- 3: "fewer L0 words than entries"
    cond (ltb (length l) (l0_entries w)) (Err FewL0Words)
    -- 4
    (cond (arena_bad q.base.0 q.words) (Err BadArena)
    -- 5
    (cond (log_short q.call) (Err ShortLog)
    -- 6: "address at or above 2^PPS bits"
    (cond (leb (2 ^ w.pps) q.address.0) (Err InvalidRequest)
    -- 6, the GPI
    (cond (gpi_bad q.config q.call) (Err InvalidRequest)
    -- 7
    (entered (l0_of (get_or l (l0_index w q.address.0) 0)) (λ a.
    -- 8
    cond (outside q.base.0 q.words a (l1_words w)) (Err OutsideArena)
    (Ok (Table (site_of q w a)))))))))

-- where an address lies, for every input: refused, in a block, or in a table; l are the lent L0 words
unfoldable pub place_of : Ask → List ℕ → Result Place Refusal
place_of q l = configured (configured_of q.config) (located q l)
