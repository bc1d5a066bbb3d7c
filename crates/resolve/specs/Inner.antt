-- Crate resolve. What the pieces of `resolve` promise each other: no public contract names it.
use Rattle.std.specs.Prelude.{◌≡◌, cond, List, ℕ, get_or, Err, Ok, Option, Result}
use Rattle.l0.specs.L0.{l0_of}
use Rattle.config.specs.declared.Widths.{Widths}
use Rattle.config.specs.Fields.{configured_of}
use Rattle.config.specs.Index.{l0_index, l1_words}
use Rattle.resolve.specs.declared.Ask.{Ask}
use Rattle.resolve.specs.declared.Refusal.TheVariants.{OutsideArena}
use Rattle.resolve.specs.Refusals.{outside}
use Rattle.resolve.specs.Place.{site_of, entered, place_of}
use Rattle.resolve.specs.Sited.{Passed}
use Rattle.l0.specs.declared.L0Entry.{L0Entry}
use Rattle.resolve.specs.declared.Place.{Place}
use Rattle.resolve.specs.declared.Refusal.{Refusal}
use Rattle.resolve.specs.declared.Place.TheVariants.{Table}

-- of a call that is lent the L0 words l: it passed the tests with these widths, or it is refused
abbrev pub Told : Ask → List ℕ → Result Widths Refusal → Type 0
Told q l (Ok w) = (configured_of q.config ≡ Ok w) × Passed q l w
Told q l (Err r) = Err r ≡ place_of q l

-- what the L0 word of the address says
abbrev pub word_of : Ask → List ℕ → Widths → Option L0Entry
word_of q l w = l0_of (get_or l (l0_index w q.address.0) 0)

-- what some L0 word says
abbrev pub Entry : Option L0Entry → Type 0
Entry e = (v : ℕ) × (l0_of v ≡ e)

-- the order's end, from what the L0 word says
abbrev pub onward : Ask → Widths → Option L0Entry → Result Place Refusal
onward q w e = entered e (λ a. cond (outside q.base.0 q.words a (l1_words w)) (Err OutsideArena) (Ok (Table (site_of q w a))))
