-- What mend and the check answer, and what a mend leaves, for every input: document 01, "Numbers handed back" and "Agreement, normal
-- tables, mend". Both refuse alike: 1 to 4, 6, 7, 8 in the order that every call shares.
use Rattle.std.specs.Prelude.{◌≡◌, Bool, false, List, ℕ, Result, Ok, Err}
use Rattle.theory.specs.Mend.{mend, mend_count}
use Rattle.config.specs.Format.{format_of}
use Rattle.resolve.specs.declared.Place.{Place}
use Rattle.resolve.specs.declared.Place.TheVariants.{Block, Table}
use Rattle.resolve.specs.declared.Refusal.{Refusal}
use Rattle.resolve.specs.declared.Refusal.TheVariants.{InvalidRequest}
use Rattle.resolve.specs.declared.Site.{Site}
use Rattle.resolve.specs.Refusals.{refusal_number}
use Rattle.resolve.specs.Lent.{Lent, placed, table_in, lay_in}
use Rattle.mend_table.specs.Normal.{is_normal}

-- ---- the paper's numbers and values

abbrev pub mended_number : Result ℕ Refusal → ℕ
mended_number (Ok n) = 0
mended_number (Err r) = refusal_number r

-- the stores that are reported: "a refused mend reports 0 stores"
abbrev pub mended_stores : Result ℕ Refusal → ℕ
mended_stores (Ok n) = n
mended_stores (Err r) = 0

abbrev pub checked_number : Result Bool Refusal → ℕ
checked_number (Ok b) = 0
checked_number (Err r) = refusal_number r

-- whether it says yes, which a refused check doesn't
abbrev pub checked_yes : Result Bool Refusal → Bool
checked_yes (Ok b) = b
checked_yes (Err r) = false

-- ---- "Mend takes an address naming the L1 table": the table's site, or the refusal; 6: "set or mend on a valid L0 block"

abbrev pub named_by : Result Place Refusal → Result Site Refusal
named_by (Err r) = Err r
named_by (Ok (Block g)) = Err InvalidRequest
named_by (Ok (Table s)) = Ok s

-- ---- mend

-- what a mend answers, and what it leaves of what it was lent
pub record Outcome : Type 0 where
  pub answer : Result ℕ Refusal
  pub left : Lent

-- the answer r and the arena A are that outcome
pub record Left (o : Outcome) (r : Result ℕ Refusal) (A : List ℕ) : Type 0 where
  pub answer : r ≡ o.answer
  pub arena : A ≡ o.left.arena

-- with the limit k; "Refusals 1 to 9 change nothing"
unfoldable pub mended_at : Lent → ℕ → Result Site Refusal → Outcome
mended_at q k (Err r) = record { answer = Err r; left = q }
mended_at q k (Ok s) =
    record {
      answer = Ok (mend_count (format_of q.config) s.unit k (table_in q s));
      left = lay_in q s (mend (format_of q.config) s.unit k (table_in q s));
    }

-- the mend of the table that the address x names, with the limit k
unfoldable pub mend_of : Lent → ℕ → ℕ → Outcome
mend_of q x k = mended_at q k (named_by (placed q x))

-- ---- the check: "refuses as mend does, else says yes exactly if an unlimited mend would write nothing"

unfoldable pub checked_at : Lent → Result Site Refusal → Result Bool Refusal
checked_at q (Err r) = Err r
checked_at q (Ok s) = Ok (is_normal (format_of q.config) s.unit (table_in q s))

-- the check of the table that the address x names
unfoldable pub check_of : Lent → ℕ → Result Bool Refusal
check_of q x = checked_at q (named_by (placed q x))
