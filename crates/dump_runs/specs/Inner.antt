-- What the type `Opened` holds, and what the functions of the crate `dump_runs` promise one another and the crate `dump_text`.
use Rattle.std.specs.Prelude.{◌≡◌, false, ◌∷◌, ℕ, ◌+◌, ◌-◌, ◌≤◌, ◌<◌, length, Err, Ok, Result}
use Rattle.gpi.specs.declared.Gpi.{Gpi}
use Rattle.config.specs.declared.Config.{Config}
use Rattle.config.specs.declared.Widths.{Widths}
use Rattle.config.specs.Fields.{configured_of}
use Rattle.config.specs.Index.{l0_entries}
use Rattle.resolve.specs.declared.Refusal.{Refusal}
use Rattle.resolve.specs.declared.Refusal.TheVariants.{InvalidL1Entry}
use Rattle.resolve.specs.Refusals.{arena_bad}
use Rattle.resolve.specs.Lent.{Lent}
use Rattle.gpt.specs.Lookup.{granted}
use Rattle.view.specs.declared.NoGpi.{NoGpi}
use Rattle.dump_lines.specs.declared.Run.{Run}
use Rattle.dump_runs.specs.declared.Piece.{Piece}
use Rattle.dump_runs.specs.Runs.{from}

-- a configuration and tables that no refusal 1 to 4 shuts out: w are the widths
pub record Open (q : Lent) (w : Widths) : Type 0 where
  pub configured : configured_of q.config ≡ Ok w
  pub enough : l0_entries w ≤ length q.l0
  pub arena : arena_bad q.base (length q.arena) ≡ false

-- the answer where a table's view holds this; what lies outside the table is never asked (`view_is_lookup`)
abbrev pub answer_of : Config → Result Gpi NoGpi → Result Gpi Refusal
answer_of c (Ok g) = granted c g InvalidL1Entry
answer_of c (Err e) = Err InvalidL1Entry

-- p is a piece that starts at a or before: each address from a to its last answers as a does
pub record Holds (f : ℕ → Result Gpi Refusal) (end a : ℕ) (p : Piece) : Type 0 where
  pub answer : p.answer ≡ f a
  pub from : a ≤ p.last
  pub inside : p.last < end
  pub same : (x : ℕ) → a ≤ x → x ≤ p.last → f x ≡ f a

-- r is the first run from a on, of addresses below the end
pub record First (f : ℕ → Result Gpi Refusal) (end a : ℕ) (r : Run) : Type 0 where
  pub runs : from f a (end - a) ≡ r ∷ from f (r.last + 1) (end - (r.last + 1))
  pub start : r.start ≡ a
  pub up : a ≤ r.last
  pub inside : r.last < end
