-- Crate resolve. Document 01, "Numbers handed back": the refusals that all calls share, by their numbers, and the tests behind
-- 4, 5, 6 and 8.
use Rattle.std.specs.Prelude.{Bool, true, false, not, ◌||◌, ℕ, ◌+◌, ◌*◌, ◌%◌, ◌^◌, eqb, ltb, None, Some}
use Rattle.config.specs.declared.Config.{Config}
use Rattle.config.specs.Fields.{supported_of}
use Rattle.config.specs.declared.ConfigError.{ConfigError}
use Rattle.config.specs.declared.ConfigError.TheVariants.{InvalidConfiguration as Unlisted, GptNotInitialized as Off}
use Rattle.resolve.specs.declared.Refusal.{Refusal}
use Rattle.resolve.specs.declared.Refusal.TheVariants.{InvalidConfiguration, GptNotInitialized, FewL0Words, BadArena, ShortLog}
use Rattle.resolve.specs.declared.Refusal.TheVariants.{InvalidRequest, InvalidL0Entry, OutsideArena, InvalidL1Entry}
use Rattle.resolve.specs.declared.Call.{Call}
use Rattle.resolve.specs.declared.Call.TheVariants.{Plain, Set}

-- the paper's number of every case
abbrev pub refusal_number : Refusal → ℕ
refusal_number InvalidConfiguration = 1
refusal_number GptNotInitialized = 2
refusal_number FewL0Words = 3
refusal_number BadArena = 4
refusal_number ShortLog = 5
refusal_number InvalidRequest = 6
refusal_number InvalidL0Entry = 7
refusal_number OutsideArena = 8
refusal_number InvalidL1Entry = 9

-- 1 and 2, of the configuration alone
abbrev pub config_refusal : ConfigError → Refusal
config_refusal Unlisted = InvalidConfiguration
config_refusal Off = GptNotInitialized

-- ---- the tests, each by what it asks

-- 4: "arena base not a multiple of 4,096, or base + 8 x words above 2^52"
unfoldable pub arena_bad : ℕ → ℕ → Bool
arena_bad b n = not (eqb (b % 4096) 0) || ltb (2 ^ 52) (b + 8 * n)

-- 5: "set only: log under 52 words"
abbrev pub log_short : Call → Bool
log_short Plain = false
log_short (Set n g) = ltb n 52

-- 6: "set with a GPI number that is unknown or unsupported"; "GPI known then supported (6)"
abbrev pub gpi_bad : Config → Call → Bool
gpi_bad c Plain = false
gpi_bad c (Set n (Some g)) = not (supported_of c g)
gpi_bad c (Set n None) = true

-- 8: "the L1 table is not wholly inside the arena": n words from a, in an arena of k words from b
unfoldable pub outside : ℕ → ℕ → ℕ → ℕ → Bool
outside b k a n = ltb a b || ltb (b + 8 * k) (a + 8 * n)
