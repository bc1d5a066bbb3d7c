-- The runs of addresses that answer alike: document 01, "Neighbouring equal answers share a line". Defined over addresses, one at a time;
-- that the code passes whole granules and whole L0 entries at once is its own affair.
use Rattle.std.specs.Prelude.{Bool, cond, List, [], ◌∷◌, ℕ, zero, suc, ◌+◌, ◌*◌, ◌^◌, eqb, Result}
use Rattle.gpi.specs.declared.Gpi.{Gpi}
use Rattle.config.specs.declared.Widths.{Widths}
use Rattle.resolve.specs.declared.Refusal.{Refusal}
use Rattle.gpt.specs.Lookup.{looked_number, looked_gpi}
use Rattle.dump_lines.specs.declared.Run.{Run}

-- an answer by the paper's number and its GPI's; two answers have the same exactly if they are equal (`code-tells`)
abbrev pub code_of : Result Gpi Refusal → ℕ
code_of a = 16 * looked_number a + looked_gpi a

abbrev pub alike : Result Gpi Refusal → Result Gpi Refusal → Bool
alike a b = eqb (code_of a) (code_of b)

abbrev pub run : ℕ → ℕ → Result Gpi Refusal → Run
run s l a = record { start = s; last = l; answer = a }

-- f is what each address answers. A run started at s and goes to a at least; n addresses are left after a.
unfoldable pub runs : (ℕ → Result Gpi Refusal) → ℕ → ℕ → ℕ → List Run
runs f s a zero = run s a (f a) ∷ []
runs f s a (suc n) = cond (alike (f (suc a)) (f a)) (runs f s (suc a) n) (run s a (f a) ∷ runs f (suc a) (suc a) n)

-- the runs of n addresses from a on
unfoldable pub from : (ℕ → Result Gpi Refusal) → ℕ → ℕ → List Run
from f a zero = []
from f a (suc n) = runs f a a n

-- the addresses of the protected space
abbrev pub total : Widths → ℕ
total w = 2 ^ w.pps
