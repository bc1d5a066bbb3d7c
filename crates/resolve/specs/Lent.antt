-- Document 01, "What a call is lent", as one thing: every call, demand 3 and the history theorem take it. The log of a set stands beside
-- it.
use Rattle.std.specs.Prelude.{List, ◌≡◌, ℕ, ◌<◌, ◌^◌, length, Result}
use Rattle.theory.specs.Arena.{table_at, laid}
use Rattle.config.specs.declared.Config.{Config}
use Rattle.config.specs.declared.Widths.{Widths}
use Rattle.config.specs.Index.{l0_index}
use Rattle.resolve.specs.declared.Ask.{Ask}
use Rattle.resolve.specs.declared.Call.{Call}
use Rattle.resolve.specs.declared.Call.TheVariants.{Plain}
use Rattle.resolve.specs.declared.Site.{Site}
use Rattle.resolve.specs.Place.{asks, place_of}
use Rattle.resolve.specs.declared.Place.{Place}
use Rattle.resolve.specs.declared.Refusal.{Refusal}

-- "Lent: L0 words; arena words of 64 bits; the arena's physical base", and the fields
pub record Lent : Type 0 where
  pub config : Config
  pub l0 : List ℕ
  pub arena : List ℕ
  pub base : ℕ

abbrev pub lent : Config → List ℕ → List ℕ → ℕ → Lent
lent c L A b = record { config = c; l0 = L; arena = A; base = b }

-- the same with another arena
abbrev pub over : Lent → List ℕ → Lent
over q A = record { config = q.config; l0 = q.l0; arena = A; base = q.base }

-- what a call asks at an address: of the arena only its length
abbrev pub ask_of : Lent → Call → ℕ → Ask
ask_of q call x = asks q.config (length q.arena) q.base call x

-- where the address x lies for a call; and for one that is no set
abbrev pub place_for : Lent → Call → ℕ → Result Place Refusal
place_for q call x = place_of (ask_of q call x) q.l0

abbrev pub placed : Lent → ℕ → Result Place Refusal
placed q x = place_for q Plain x

-- the L1 table at a site; and the same lent with t in its place
abbrev pub table_in : Lent → Site → List ℕ
table_in q s = table_at s.start s.words q.arena

abbrev pub lay_in : Lent → Site → List ℕ → Lent
lay_in q s t = over q (laid s.start s.words q.arena t)

-- "an address naming the L1 table": y is one of the L0 entry of x
pub record Names (w : Widths) (x y : ℕ) : Type 0 where
  pub below : y < 2 ^ w.pps
  pub entry : l0_index w y ≡ l0_index w x
