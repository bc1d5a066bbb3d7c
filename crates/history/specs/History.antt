-- Demand 3 over time: what every address looks up while sets, sets cut after any number of stores, and mends of any limit follow one
-- another in one arena. Over the set, lookup and mend that the contracts cite; beside what is lent stand the marks, which L0 entries'
-- tables are known to be whole, and the ideal, what each address ought to look up as.
use Rattle.std.specs.Prelude.{◌≡◌, Bool, true, false, cond, not, ◌&&◌, List, [], ◌∷◌, ℕ, ◌/◌, eqb, ltb, None, Ok, Option, Result, Some}
use Rattle.gpi.specs.declared.Gpi.{Gpi}
use Rattle.gpi.specs.declared.Size.TheVariants.{MB2}
use Rattle.gpi.specs.Gpi.{gpi_at}
use Rattle.theory.specs.Arena.{table_at}
use Rattle.theory.specs.Whole.{Whole}
use Rattle.config.specs.declared.Widths.{Widths}
use Rattle.config.specs.Fields.{configured_of}
use Rattle.config.specs.Index.{l0_index, l1_words, granule_bytes, size_words}
use Rattle.config.specs.Format.{format_of}
use Rattle.resolve.specs.declared.Refusal.{Refusal}
use Rattle.resolve.specs.Lent.{Lent}
use Rattle.gpt.specs.Lookup.{lookup_of}
use Rattle.gpt.specs.Set.{Outcome, set_of, changed_number}
use Rattle.mend.specs.Outcome.{mend_of, mended_number}
use Rattle.cut_and_mend.specs.Demand3.{Answers0or10, TableAt, Apart, cut_after, granule_store_after}

-- ---- acts

-- the address, the GPI's number, the lent log
pub record Request : Type 0 where
  pub address : ℕ
  pub gpi : ℕ
  pub log : List ℕ

pub data Act : Type 0 where
  -- a set to its end
  sets : Request → Act
  -- a set cut after so many stores
  cuts : Request → ℕ → Act
  -- a mend of the table that the address names, of this limit
  mends : ℕ → ℕ → Act

abbrev pub change : Lent → Request → Outcome
change q r = set_of q r.log r.address r.gpi

-- what is left of what was lent; of a cut set, with the first k stores made that its log tells
abbrev pub acted : Act → Lent → Lent
acted (sets r) q = (change q r).left
acted (cuts r k) q = cut_after k q (change q r)
acted (mends x n) q = (mend_of q x n).left

-- which L0 entries' tables are then known to be whole: a finished set leaves that as it was; a cut makes the table doubtful, and so does a
-- mend that its limit may have stopped; a mend that no limit can stop makes it whole. A refused mend changes nothing
abbrev pub act_marks : Widths → Act → Lent → (ℕ → Bool) → ℕ → Bool
act_marks w (sets r) q s e = s e
act_marks w (cuts r k) q s e = cond (eqb e (l0_index w r.address)) false (s e)
act_marks w (mends x n) q s e =
    cond (eqb (mended_number (mend_of q x n).answer) 0 && eqb e (l0_index w x)) (not (ltb n (l1_words w))) (s e)

-- the addresses of x's granule answer this GPI; no set is made of an unknown one
abbrev pub made : Widths → ℕ → Option Gpi → (ℕ → Result Gpi Refusal) → ℕ → Result Gpi Refusal
made w x (Some g) f y = cond (eqb (y / granule_bytes w) (x / granule_bytes w)) (Ok g) (f y)
made w x None f y = f y

-- the ideal changes at the target granule, and exactly when the granule store is made: of a cut set, where its log has it
abbrev pub act_ideal : Widths → Act → Lent → (ℕ → Result Gpi Refusal) → ℕ → Result Gpi Refusal
act_ideal w (sets r) q f y = made w r.address (gpi_at r.gpi) f y
act_ideal w (cuts r k) q f y = cond (ltb (granule_store_after (change q r)) k) (made w r.address (gpi_at r.gpi) f y) (f y)
act_ideal w (mends x n) q f y = f y

-- ---- one after the other

pub record State : Type 0 where
  pub lent : Lent
  -- by L0 entry
  pub marks : ℕ → Bool
  -- by address
  pub ideal : ℕ → Result Gpi Refusal

-- at the start each address ought to look up as it does
abbrev pub start : Lent → (ℕ → Bool) → State
start q s = record { lent = q; marks = s; ideal = lookup_of q }

-- w are the widths that the configuration means
unfoldable pub act : Widths → Act → State → State
act w a S =
    record { lent = acted a S.lent; marks = act_marks w a S.lent S.marks; ideal = act_ideal w a S.lent S.ideal }

unfoldable pub acts : Widths → List Act → State → State
acts w [] S = S
acts w (a ∷ l) S = acts w l (act w a S)

-- a set, cut or not, is one that answers 0 or 10, of an address whose L0 entry is marked
pub record Aimed (w : Widths) (S : State) (r : Request) : Type 0 where
  pub is_marked : S.marks (l0_index w r.address) ≡ true
  pub answers : Answers0or10 (changed_number (change S.lent r).answer)

-- a mend is of any address and any limit
abbrev pub May : Widths → State → Act → Type 0
May w S (sets r) = Aimed w S r
May w S (cuts r k) = Aimed w S r
May w S (mends x n) = Unit {0}

-- each may be done when it is its turn
abbrev pub Allowed : Widths → List Act → State → Type 0
Allowed w [] S = Unit {0}
Allowed w (a ∷ l) S = May w S a × Allowed w l (act w a S)

-- ---- what is asked of the start

-- w are the widths that the configuration means; the tables of the L0 entries that lie wholly inside the arena share no word, and the
-- marked ones are whole
pub record Sound (w : Widths) (q : Lent) (marks : ℕ → Bool) : Type 0 where
  pub configured : configured_of q.config ≡ Ok w
  pub apart : Apart w q
  pub whole : (e o : ℕ) → TableAt w q e o → marks e ≡ true
      → Whole (format_of q.config) (size_words w MB2) (table_at o (l1_words w) q.arena)

-- ---- what holds at every moment

-- that, and each address looks up as it ought to, refusals included
pub record Kept (w : Widths) (S : State) : Type 0 where
  pub sound : Sound w S.lent S.marks
  pub looks : (y : ℕ) → lookup_of S.lent y ≡ S.ideal y
