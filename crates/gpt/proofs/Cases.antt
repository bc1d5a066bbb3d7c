-- Worked examples of a lookup, by computation alone: neighbours of document 01's C1 to C6, which stand in the crate `outcomes`.
use mathlib.Core.Path.{◌≡◌, refl}
use mathlib.Core.List.{[], ◌∷◌}
use Prim.Native.Nat.{ℕ}
use lib.ListN.{replicate, set}
use Rattle.gpi.specs.declared.Gpi.TheVariants.{NonSecure, Root, Realm}
use Rattle.granules.specs.Nibs.{nibs}
use Rattle.l0.specs.L0.{l0_of}
use Rattle.l1.specs.L1.{l1_of}
use Rattle.config.specs.Fields.{configured_of}
use Rattle.resolve.specs.Refusals.{arena_bad, outside}
use Rattle.resolve.specs.Place.{site_of, located, place_of}
use Rattle.resolve.specs.Lent.{lent}
use Rattle.resolve.specs.B.{fields_b, l0_b, arena_b, arrangement_b, in_b}
use Rattle.gpt.specs.Lookup.{looked_number, looked_gpi, looked_at, lookup_of}
use Rattle.std.specs.Prelude.{Ok, Result}
use Rattle.gpi.specs.declared.Gpi.{Gpi}
use Rattle.resolve.specs.declared.Refusal.{Refusal}

-- what must open for a lookup to be computed
unfoldable pub opened : ℕ
unfolding nibs l0_of l1_of configured_of arena_bad outside site_of located place_of looked_at lookup_of
opened = 0

-- B with this word first in the arena, which is the word of 0x40000000 to 0x400FFFFF
abbrev with : ℕ → ℕ → Result Gpi Refusal
with v x = lookup_of (in_b (set arena_b 0 v)) x

-- ---- the other refusals that a lookup has, and no GPI with them

few : looked_number (lookup_of (lent fields_b (0x91 ∷ []) arena_b 0x8000_0000) 0) ≡ 3
unfolding opened
few = refl

arena : looked_number (lookup_of (lent fields_b l0_b arena_b 0x8000_0008) 0) ≡ 4
unfolding opened
arena = refl

-- a block of an unsupported GPI; an unsupported GPI in an L1 word, contiguous or granules
unsupported :
    (looked_number (lookup_of (lent fields_b (0x41 ∷ 0 ∷ 0 ∷ 0 ∷ []) [] 0) 0) ≡ 7)
    × (looked_number (with 0x141 0x4000_0000) ≡ 9)
    × (looked_number (with 0x4 0x4000_0000) ≡ 9)
unfolding opened
unsupported = (refl, refl, refl)

none : (looked_gpi (with 0x141 0x4000_0000) ≡ 0) × (looked_gpi (lookup_of arrangement_b 0x4000_0000) ≡ 10)
unfolding opened
none = (refl, refl)

-- 8 is told before 9: the arena is a word short, and its words are invalid
outside-first : looked_number (lookup_of (in_b (replicate 1023 0x2)) 0x4000_0000) ≡ 8
unfolding opened
outside-first = refl

-- ---- granules: each address its own nibble, support of that one alone, validity of all sixteen

granules :
    (with 0xBAAA_AAAA_AAAA_AA49 0x4000_0000 ≡ Ok NonSecure)
    × (looked_number (with 0xBAAA_AAAA_AAAA_AA49 0x4001_0000) ≡ 9)
    × (with 0xBAAA_AAAA_AAAA_AA49 0x400F_FFFF ≡ Ok Realm)
unfolding opened
granules = (refl, refl, refl)

reserved : looked_number (with 0xEAAA_AAAA_AAAA_AAAA 0x4000_0000) ≡ 9
unfolding opened
reserved = refl

-- a contiguous word speaks for its own word only: the next one is read, whatever size the first claims
own-word :
    (with 0x3B1 0x4000_0000 ≡ Ok Realm)
    × (with 0x3B1 0x4010_0000 ≡ Ok Root)
    × (with 0xFFFF_FFFF_FFFF_FFB1 0x4000_0000 ≡ Ok Realm)
unfolding opened
own-word = (refl, refl, refl)

-- a table 512 words into the arena
later : lookup_of (lent fields_b l0_b (set (replicate 1536 0x2) 512 0x1B1) 0x7FFF_F000) 0x4000_0000 ≡ Ok Realm
unfolding opened
later = refl
