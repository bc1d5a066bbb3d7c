-- Worked examples of the order and of places, by computation alone: document 01's arrangement B and its neighbours.
use mathlib.Core.Path.{◌≡◌, refl}
use mathlib.Core.Bool.{true, false}
use mathlib.Core.List.{[], ◌∷◌}
use Prim.Native.Nat.{ℕ, ◌-◌, ◌^◌}
use Rattle.std.specs.Prelude.{Err, None, Ok, Result, Some}
use Rattle.gpi.specs.declared.Gpi.TheVariants.{SystemAgent, NonSecure, Realm, NonSecureOnly}
use Rattle.l0.specs.L0.{l0_of}
use Rattle.config.specs.Fields.{configured_of}
use Rattle.resolve.specs.declared.Call.{Call}
use Rattle.resolve.specs.declared.Call.TheVariants.{Plain, Set}
use Rattle.resolve.specs.Refusals.{refusal_number, arena_bad, outside}
use Rattle.resolve.specs.Place.{asks, site_of, located, place_of}
use Rattle.resolve.specs.Lent.{place_for}
use Rattle.resolve.specs.B.{fields, fields_b, l0_b, arrangement_b}
use Rattle.resolve.specs.declared.Place.{Place}
use Rattle.resolve.specs.declared.Refusal.{Refusal}
use Rattle.resolve.specs.declared.Place.TheVariants.{Block, Table}

-- B's place of an address, for a call
abbrev at : ℕ → Call → Result Place Refusal
at x call = place_for arrangement_b call x

-- 0 where it isn't refused
abbrev number : Result Place Refusal → ℕ
number (Err r) = refusal_number r
number (Ok (Block g)) = 0
number (Ok (Table s)) = 0

-- ---- each refusal

unlisted : number (place_of (asks (fields 7 1 0 true) 1024 0x8000_0000 Plain 0) l0_b) ≡ 1
unfolding configured_of located place_of
unlisted = refl

off : number (place_of (asks (fields 0 1 0 false) 1024 0x8000_0000 Plain 0) l0_b) ≡ 2
unfolding configured_of located place_of
off = refl

widths : number (place_of (asks (fields 0 1 4 true) 1024 0x8000_0000 Plain 0) l0_b) ≡ 1
unfolding configured_of located place_of
widths = refl

few : number (place_of (asks fields_b 1024 0x8000_0000 Plain 0) (0x91 ∷ 0x91 ∷ 0x91 ∷ [])) ≡ 3
unfolding configured_of located place_of
few = refl

-- the base isn't a multiple of 4,096; it is, and one word is too many; a sum of 64 bits would wrap
arena :
    (number (place_of (asks fields_b 1024 0x8000_0800 Plain 0) l0_b) ≡ 4)
    × (number (place_of (asks fields_b 513 (2 ^ 52 - 4096) Plain 0) l0_b) ≡ 4)
    × (number (place_of (asks fields_b 1024 (2 ^ 64 - 4096) Plain 0) l0_b) ≡ 4)
unfolding configured_of arena_bad located place_of
arena = (refl, refl, refl)

short : number (at 0x4000_0000 (Set 51 (Some Realm))) ≡ 5
unfolding configured_of arena_bad located place_of
short = refl

high : (number (at 0x1_0000_0000 Plain) ≡ 6) × (number (at (2 ^ 64 - 1) Plain) ≡ 6)
unfolding configured_of arena_bad located place_of
high = (refl, refl)

-- unknown, and unsupported
gpi : (number (at 0x4000_0000 (Set 52 None)) ≡ 6) × (number (at 0x4000_0000 (Set 52 (Some NonSecureOnly))) ≡ 6)
unfolding configured_of arena_bad located place_of
gpi = (refl, refl)

-- no kind of word; a block of a reserved GPI
entry :
    (number (at 0xC000_0000 Plain) ≡ 7)
    × (number (place_of (asks fields_b 1024 0x8000_0000 Plain 0) (0x21 ∷ 0 ∷ 0 ∷ 0 ∷ [])) ≡ 7)
unfolding configured_of arena_bad located place_of l0_of
entry = (refl, refl)

-- the table's end is cut, its start lies below, it lies above
out :
    (number (place_of (asks fields_b 1023 0x8000_0000 Plain 0x4000_0000) l0_b) ≡ 8)
    × (number (place_of (asks fields_b 1024 0x8000_1000 Plain 0x4000_0000) l0_b) ≡ 8)
    × (number (place_of (asks fields_b 1024 0x7000_0000 Plain 0x4000_0000) l0_b) ≡ 8)
unfolding configured_of arena_bad outside located place_of l0_of
out = (refl, refl, refl)

-- ---- where two are true, the earlier is told

unlisted_then_off : number (place_of (asks (fields 0 3 0 false) 1024 0x8000_0000 Plain 0) l0_b) ≡ 1
unfolding configured_of located place_of
unlisted_then_off = refl

off_then_widths : number (place_of (asks (fields 0 1 4 false) 1024 0x8000_0000 Plain 0) l0_b) ≡ 2
unfolding configured_of located place_of
off_then_widths = refl

widths_then_few : number (place_of (asks (fields 0 1 4 true) 1024 0x8000_0000 Plain 0) []) ≡ 1
unfolding configured_of located place_of
widths_then_few = refl

few_then_arena : number (place_of (asks fields_b 1024 1 Plain 0) []) ≡ 3
unfolding configured_of located place_of
few_then_arena = refl

arena_then_log : number (place_of (asks fields_b 1024 1 (Set 51 (Some Realm)) 0) l0_b) ≡ 4
unfolding configured_of arena_bad located place_of
arena_then_log = refl

log-then_address : number (at 0x1_0000_0000 (Set 51 (Some Realm))) ≡ 5
unfolding configured_of arena_bad located place_of
log-then_address = refl

-- a GPI is judged before any L0 word is read
gpi-then-entry :
    (number (at 0xC000_0000 (Set 52 None)) ≡ 6)
    × (number (at 0xC000_0000 (Set 52 (Some NonSecureOnly))) ≡ 6)
unfolding configured_of arena_bad located place_of
gpi-then-entry = (refl, refl)

-- ---- let through

-- a base of 2^52 with no words, and an arena that ends there
at_top :
    (at 0 Plain ≡ Ok (Block NonSecure))
    × (place_of (asks fields_b 0 (2 ^ 52) Plain 0) l0_b ≡ Ok (Block NonSecure))
    × (place_of (asks fields_b 512 (2 ^ 52 - 4096) Plain 0) l0_b ≡ Ok (Block NonSecure))
unfolding configured_of arena_bad located place_of l0_of
at_top = (refl, refl, refl)

-- a log of 52 words, and the last address; support of a block's GPI is for the call to judge
just :
    (at 0x3FFF_FFFF (Set 52 (Some Realm)) ≡ Ok (Block NonSecure))
    × (number (at 0xFFFF_FFFF Plain) ≡ 7)
    × (place_of (asks fields_b 1024 0x8000_0000 Plain 0) (0x41 ∷ 0 ∷ 0 ∷ 0 ∷ []) ≡ Ok (Block SystemAgent))
unfolding configured_of arena_bad located place_of l0_of
just = (refl, refl, refl)

-- one entry for the whole space; surplus words aren't read
surplus :
    (place_of (asks (fields 1 0 6 true) 0 0 Plain 0xF_FFFF_FFFF) (0x91 ∷ []) ≡ Ok (Block NonSecure))
    × (place_of (asks fields_b 1024 0x8000_0000 Plain 0) (0x91 ∷ 0 ∷ 0 ∷ 0 ∷ 0x21 ∷ []) ≡ Ok (Block NonSecure))
unfolding configured_of arena_bad located place_of l0_of
surplus = (refl, refl)

-- a table that starts 512 words into the arena: the ranges align to the table, the start is the arena's
site : place_of (asks fields_b 1536 0x7FFF_F000 Plain 0x4123_4567) l0_b
    ≡ Ok (Table (record { start = 512; words = 1024; index = 18; granule = 3; unit = 2; bytes = 0x1_0000 }))
unfolding configured_of arena_bad outside site_of located place_of l0_of
site = refl
