-- Document 01, "Cases": the starred ones, C1 to C11, in a single list under one claim, over the definitions that the contracts cite.
use Rattle.std.specs.Prelude.{◌≡◌, true, false, List, [], ◌∷◌, ◌++◌, ℕ, replicate, Ok, Result}
use Rattle.gpi.specs.declared.Gpi.{Gpi}
use Rattle.gpi.specs.declared.Gpi.TheVariants.{NonSecure, Root}
use Rattle.resolve.specs.declared.Refusal.{Refusal}
use Rattle.resolve.specs.Lent.{Lent, lent}
use Rattle.resolve.specs.B.{fields, l0_b, arena_b, arrangement_b, in_b}
use Rattle.gpt.specs.Lookup.{lookup_of, looked_number}
use Rattle.gpt.specs.Set.{Outcome, set_of, changed_number, changed_stores, changed_records}

-- a log whose words past the last record are seen to stay
abbrev pub log : List ℕ
log = replicate 52 7

abbrev pub look : List ℕ → ℕ → Result Gpi Refusal
look A x = lookup_of (in_b A) x

abbrev pub change : Lent → ℕ → ℕ → Outcome
change q x g = set_of q log x g

-- ---- what a set must answer and leave: number, stores, records, the whole arena, the whole log

pub record Leaves (n k r : ℕ) (A L : List ℕ) (o : Outcome) : Type 0 where
  pub number : changed_number o.answer ≡ n
  pub stores : changed_stores o.answer ≡ k
  pub records : changed_records o.answer ≡ r
  pub arena : o.left.arena ≡ A
  pub log : o.log ≡ L

-- "words 0, 1 become 0xAAAAAAAAAAAAAAAB, 0xAAAAAAAAAAAAAAAA; 2 to 31 become 0x1A1; 32 to 511 become 0x2A1"
abbrev pub arena7 : List ℕ
arena7 = 0xAAAA_AAAA_AAAA_AAAB ∷ 0xAAAA_AAAA_AAAA_AAAA ∷ (replicate 30 0x1A1 ++ (replicate 480 0x2A1 ++ replicate 512 0x3A1))

-- DSB OSHST, TLBI range of these bytes at 0x40000000, DSB OSH
abbrev pub barriers : ℕ → List ℕ
barriers b = 2 ∷ 0 ∷ 0 ∷ 0 ∷ 3 ∷ 0x4000_0000 ∷ b ∷ 0 ∷ 4 ∷ 0 ∷ 0 ∷ 0 ∷ []

abbrev pub log7 : List ℕ
log7 =
    1 ∷ 0 ∷ 2 ∷ 0xAAAA_AAAA_AAAA_AAAA ∷ 1 ∷ 2 ∷ 30 ∷ 0x1A1 ∷ 1 ∷ 32 ∷ 480 ∷ 0x2A1
    ∷ (barriers 0x2000_0000 ++ (5 ∷ 0 ∷ 0 ∷ 0xAAAA_AAAA_AAAA_AAAB ∷ (barriers 0x1_0000 ++ replicate 12 7)))

abbrev pub log8 : List ℕ
log8 = 5 ∷ 0 ∷ 0 ∷ 0xAAAA_AAAA_AAAA_AAAA ∷ (barriers 0x1_0000 ++ (1 ∷ 0 ∷ 512 ∷ 0x3A1 ∷ replicate 32 7))

-- "word 0 all Root granules, word 1 = 0x2"
abbrev pub arena9 : ℕ → List ℕ
arena9 w = w ∷ 0x2 ∷ replicate 1022 0x3A1

abbrev pub log9 : ℕ → List ℕ
log9 w = 5 ∷ 0 ∷ 0 ∷ w ∷ (barriers 0x1_0000 ++ replicate 36 7)

-- ---- the list

pub record Starred : Type 0 where
  pub c1 : look arena_b 0x3FFF_FFFF ≡ Ok NonSecure
  pub c2 : look arena_b 0x4000_0000 ≡ Ok Root
  pub c3 : looked_number (look arena_b 0xC000_0000) ≡ 7
  pub c4 : looked_number (look arena_b 0x1_0000_0000) ≡ 6
  pub c5 : looked_number (look (0x0A1 ∷ replicate 1023 0x3A1) 0x4000_0000) ≡ 9
  pub c6 : looked_number (lookup_of (lent (fields 0 1 4 true) l0_b arena_b 0x8000_0000) 0x4000_0000) ≡ 1
  pub c6_off : looked_number (lookup_of (lent (fields 0 1 4 false) l0_b arena_b 0x8000_0000) 0x4000_0000) ≡ 2
  -- set 0x40000000 Realm
  pub c7 : Leaves 0 513 10 arena7 log7 (change arrangement_b 0x4000_0000 11)
  -- "then Root again": from what C7 left
  pub c8 : Leaves 0 513 5 arena_b log8 (change (change arrangement_b 0x4000_0000 11).left 0x4000_0000 10)
  -- "set Root at 0x40000000 gives 10 with 1 store; Realm gives 0"
  pub c9 : Leaves 10 1 4 (arena9 0xAAAA_AAAA_AAAA_AAAA) (log9 0xAAAA_AAAA_AAAA_AAAA)
      (change (in_b (arena9 0xAAAA_AAAA_AAAA_AAAA)) 0x4000_0000 10)
  pub c9_realm : Leaves 0 1 4 (arena9 0xAAAA_AAAA_AAAA_AAAB) (log9 0xAAAA_AAAA_AAAA_AAAB)
      (change (in_b (arena9 0xAAAA_AAAA_AAAA_AAAA)) 0x4000_0000 11)
  -- "set on the block at 0, NonSecure: 6", "set GPI 13: 6"
  pub c10 : Leaves 6 0 0 arena_b log (change arrangement_b 0x0 9)
  pub c11 : Leaves 6 0 0 arena_b log (change arrangement_b 0x4000_0000 13)

-- ---- one more: a set that shatters and then answers 10

-- "Refusal 10 leaves the shattered words and the new granule stored, nothing fused, and the log up to that point": a 2 MB entry of Root at
-- the address, an invalid word in its 32 MB, and Root is set
abbrev pub ShatteredThenStopped : Type 0
ShatteredThenStopped =
    Leaves 10 3 8 (0xAAAA_AAAA_AAAA_AAAA ∷ 0xAAAA_AAAA_AAAA_AAAA ∷ 0x2 ∷ replicate 1021 0x3A1)
    (1 ∷ 0 ∷ 2 ∷ 0xAAAA_AAAA_AAAA_AAAA ∷ (barriers 0x20_0000
    ++ (5 ∷ 0 ∷ 0 ∷ 0xAAAA_AAAA_AAAA_AAAA ∷ (barriers 0x1_0000 ++ replicate 20 7))))
    (change (in_b (0x1A1 ∷ 0x1A1 ∷ 0x2 ∷ replicate 1021 0x3A1)) 0x4000_0000 10)
