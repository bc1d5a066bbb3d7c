-- Crate resolve. The numbers of the refusals that all calls share.
use Prim.Native.Nat.{◌<◌}
use lib.Dec.{lit<}
use Rattle.resolve.specs.declared.Refusal.{Refusal}
use Rattle.resolve.specs.declared.Refusal.TheVariants.{InvalidConfiguration, GptNotInitialized, FewL0Words, BadArena, ShortLog}
use Rattle.resolve.specs.declared.Refusal.TheVariants.{InvalidRequest, InvalidL0Entry, OutsideArena, InvalidL1Entry}
use Rattle.resolve.specs.Refusals.{refusal_number}

-- a refusal's number is neither 0 nor 10
pub refusal_number_lem : (r : Refusal) → (0 < refusal_number r) × (refusal_number r < 10)
refusal_number_lem InvalidConfiguration = (lit< tt, lit< tt)
refusal_number_lem GptNotInitialized = (lit< tt, lit< tt)
refusal_number_lem FewL0Words = (lit< tt, lit< tt)
refusal_number_lem BadArena = (lit< tt, lit< tt)
refusal_number_lem ShortLog = (lit< tt, lit< tt)
refusal_number_lem InvalidRequest = (lit< tt, lit< tt)
refusal_number_lem InvalidL0Entry = (lit< tt, lit< tt)
refusal_number_lem OutsideArena = (lit< tt, lit< tt)
refusal_number_lem InvalidL1Entry = (lit< tt, lit< tt)
