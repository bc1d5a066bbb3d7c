-- `L0Entry::try_from` meets its contract: a mask of bits 12 to 51 is a remainder of a quotient.
use Rattle.std.proofs.Common.{ℕ, ap}
use lib.Bits.{and_high}
use Rattle.std.specs.Prelude.{Some}
use Rattle.pa.specs.Pa.{pa}
use Rattle.l0.specs.L0.{l0_of}
use Rattle.l0.specs.declared.L0Entry.TheVariants.{Table}
use Rattle.l0.proofs.L0EntryTryFromU64.try_from.Goals as goal

pub returns-in-3 : goal.returns-in-3
unfolding l0_of
returns-in-3 c = rw c.in-3.is (ap (λ (a : ℕ). Some (Table (pa a))) (and_high c.args.w 40 12))
