-- The format of L1 words that a configuration means: document 01, "Words". Lookup, set, mend and check, and what is proved of them, name
-- the format by their configuration.
use Rattle.theory.specs.Format.{Format}
use Rattle.l1.specs.Arm.{arm}
use Rattle.config.specs.declared.Config.{Config}

-- every configuration means the one format
abbrev pub format_of : Config → Format
format_of c = arm
