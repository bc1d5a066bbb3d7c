-- Worked examples of mend and the check, by computation alone: small tables at 64 KB, where two words are 2 MB; and the refusals of calls
-- in document 01's arrangement B.
use mathlib.Core.Path.{◌≡◌, refl}
use mathlib.Core.Bool.{Bool, true, false}
use mathlib.Core.List.{List, [], ◌∷◌}
use Prim.Native.Nat.{ℕ}
use lib.ListN.{replicate}
use Rattle.theory.specs.Format.{reads}
use Rattle.theory.specs.Normal.{span, every, alike, largest_alike, normal_up_to}
use Rattle.theory.specs.Stores.{apply}
use Rattle.theory.specs.Mend.{repairs, mending, mend, mend_count}
use Rattle.granules.specs.Nibs.{nibs}
use Rattle.l0.specs.L0.{l0_of}
use Rattle.l1.specs.L1.{l1_of}
use Rattle.l1.specs.Arm.{arm}
use Rattle.config.specs.Fields.{configured_of}
use Rattle.resolve.specs.Refusals.{arena_bad, outside}
use Rattle.resolve.specs.Place.{site_of, located, place_of}
use Rattle.resolve.specs.Lent.{lent}
use Rattle.resolve.specs.B.{fields, l0_b, arrangement_b}
use Rattle.mend_table.specs.Normal.{is_normal}
use Rattle.mend.specs.Outcome.{mended_number, mended_stores, checked_number, checked_yes, mended_at, mend_of, checked_at, check_of}
use Rattle.std.specs.Prelude.{Result}
use Rattle.resolve.specs.declared.Refusal.{Refusal}

-- what must open for a mend and a check to be computed
unfoldable pub opened : ℕ
unfolding nibs l0_of l1_of configured_of arena_bad outside site_of located place_of reads span every alike largest_alike normal_up_to apply repairs
    mending mend mend_count is_normal mended_at mend_of checked_at check_of
opened = 0

-- ---- tables

abbrev roots : ℕ
roots = 0xAAAA_AAAA_AAAA_AAAA

abbrev mended : ℕ → List ℕ → List ℕ
mended k t = mend arm 2 k t

abbrev count : ℕ → List ℕ → ℕ
count k t = mend_count arm 2 k t

abbrev normal : List ℕ → Bool
normal t = is_normal arm 2 t

-- 2 MB of one GPI as granules: its contiguous word, upward, as far as the limit goes
fused : mended 2 (roots ∷ roots ∷ []) ≡ 0x1A1 ∷ 0x1A1 ∷ []
unfolding opened
fused = refl

cut : mended 1 (roots ∷ roots ∷ []) ≡ 0x1A1 ∷ roots ∷ []
unfolding opened
cut = refl

none : mended 0 (roots ∷ roots ∷ []) ≡ roots ∷ roots ∷ []
unfolding opened
none = refl

counted : count 9 (roots ∷ roots ∷ []) ≡ 2
unfolding opened
counted = refl

fine : normal (0x1A1 ∷ 0x1A1 ∷ []) ≡ true
unfolding opened
fine = refl

-- a contiguous word that differs only in its ignored bits is rewritten, and the check says no
noise : normal (0x8000_01A1 ∷ 0x1A1 ∷ []) ≡ false
unfolding opened
noise = refl

noise_mended : mended 2 (0x8000_01A1 ∷ 0x1A1 ∷ []) ≡ 0x1A1 ∷ 0x1A1 ∷ []
unfolding opened
noise_mended = refl

noise_counted : count 2 (0x8000_01A1 ∷ 0x1A1 ∷ []) ≡ 1
unfolding opened
noise_counted = refl

-- an invalid word is kept, and what stands beside it becomes its granules
kept : mended 2 (0x2 ∷ 0x3A1 ∷ []) ≡ 0x2 ∷ roots ∷ []
unfolding opened
kept = refl

-- two GPIs in 2 MB: granules
mixed : mended 2 (0x1A1 ∷ 0x1B1 ∷ []) ≡ roots ∷ 0xBBBB_BBBB_BBBB_BBBB ∷ []
unfolding opened
mixed = refl

-- 32 MB of one GPI, told as 2 MB: not normal
fused-2 : normal (replicate 32 0x1A1) ≡ false
unfolding opened
fused-2 = refl

fused-32 : normal (replicate 32 0x2A1) ≡ true
unfolding opened
fused-32 = refl

-- ---- calls in B: with this PPS and GPC, these L0 words, so many arena words and this base lent

abbrev call : ℕ → Bool → List ℕ → ℕ → ℕ → ℕ → Result ℕ Refusal
call p on L n b x = (mend_of (lent (fields p 1 0 on) L (replicate n 0x3A1) b) x 5).answer

refused-1 : mended_number (call 7 true l0_b 1024 0x8000_0000 0x4000_0000) ≡ 1
unfolding opened
refused-1 = refl

refused-2 : mended_number (call 0 false l0_b 1024 0x8000_0000 0x4000_0000) ≡ 2
unfolding opened
refused-2 = refl

refused-3 : mended_number (call 0 true (0x91 ∷ 0x8000_0003 ∷ 0x01 ∷ []) 1024 0x8000_0000 0x4000_0000) ≡ 3
unfolding opened
refused-3 = refl

refused-4 : mended_number (call 0 true l0_b 1024 0x8000_0001 0x4000_0000) ≡ 4
unfolding opened
refused-4 = refl

refused-6 : mended_number (call 0 true l0_b 1024 0x8000_0000 0x1_0000_0000) ≡ 6
unfolding opened
refused-6 = refl

-- a valid L0 block, and the stores that a refused mend reports
block : mended_number (call 0 true l0_b 1024 0x8000_0000 0x0) ≡ 6
unfolding opened
block = refl

block_stores : mended_stores (call 0 true l0_b 1024 0x8000_0000 0x0) ≡ 0
unfolding opened
block_stores = refl

refused-7 : mended_number (call 0 true l0_b 1024 0x8000_0000 0xC000_0000) ≡ 7
unfolding opened
refused-7 = refl

refused-8 : mended_number (call 0 true l0_b 1023 0x8000_0000 0x4000_0000) ≡ 8
unfolding opened
refused-8 = refl

block_checked : checked_number (check_of arrangement_b 0x0) ≡ 6
unfolding opened
block_checked = refl

block_no : checked_yes (check_of arrangement_b 0x0) ≡ false
unfolding opened
block_no = refl
