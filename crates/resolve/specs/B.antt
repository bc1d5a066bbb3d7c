-- Document 01, "Cases": "Base arrangement B: PPS 0, L0GPTSZ 0, PGS 1, GPC on, all else off, arena base 0x80000000, 1,024 words of 0x3A1;
-- L0 = 0x91, 0x80000003, 0x01, 0x0". Every case starts from it.
use Rattle.std.specs.Prelude.{Bool, true, cond, List, [], ◌∷◌, ℕ, replicate}
use Rattle.config.specs.declared.Config.{Config}
use Rattle.config.specs.Flags.{config_of}
use Rattle.resolve.specs.Lent.{Lent, lent, over}

-- PPS, PGS, L0GPTSZ and GPC; every other flag is off
abbrev pub fields : ℕ → ℕ → ℕ → Bool → Config
fields p g l on = config_of p g l (cond on 1 0)

abbrev pub fields_b : Config
fields_b = fields 0 1 0 true

abbrev pub l0_b : List ℕ
l0_b = 0x91 ∷ 0x8000_0003 ∷ 0x01 ∷ 0x0 ∷ []

abbrev pub arena_b : List ℕ
arena_b = replicate 1024 0x3A1

abbrev pub arrangement_b : Lent
arrangement_b = lent fields_b l0_b arena_b 0x8000_0000

-- B with another arena
abbrev pub in_b : List ℕ → Lent
in_b A = over arrangement_b A
