-- The theory of tables at the Arm format of `l1`: its theorems cited where a reader of document 01 looks for them, and its definitions
-- worked on small tables by computation alone. Two words are 2 MB here, as at 64 KB granules.
use mathlib.Core.Path.{◌≡◌, refl}
use mathlib.Core.List.{List, [], ◌∷◌, map}
use Prim.Native.Nat.{ℕ, ◌<◌, ◌≤◌}
use lib.Dec.{lit<}
use lib.ListN.{length}
use Rattle.theory.specs.Format.{reads, reading}
use Rattle.theory.specs.Normal.{at, span, every, alike, largest_alike, normal_up_to, build, normal_word, normal}
use Rattle.theory.specs.Stores.{apply, cut}
use Rattle.theory.specs.Mend.{repairs, mending, mend, mend_count, mends, differing}
use Rattle.theory.specs.Whole.{Whole}
use Rattle.theory.proofs.Normal.{the_one}
use Rattle.theory.proofs.Mend.{mends-then}
use Rattle.theory.proofs.Whole.{granules, stopped_not_whole}
use Rattle.granules.specs.Nibs.{nibs}
use Rattle.l1.specs.L1.{l1_of}
use Rattle.l1.specs.Arm.{arm}
use Rattle.l1.proofs.Arm.{arm-laws}

-- ---- the theorems

-- a table whose every word is normal, and which has t's granules, is the normal table of t
pub arm-one : (u : ℕ) (s t : List ℕ) → map arm.flat s ≡ map arm.flat t
    → ((i : ℕ) → i < length s → at s i ≡ normal_word arm u (at s) i) → s ≡ normal arm u t
arm-one = the_one arm arm-laws

-- any mends, and then one that no limit stops
pub arm-mends : (u : ℕ) → 0 < u → (ks : List ℕ) (n : ℕ) (t : List ℕ) → length t ≤ n → mend arm u n (mends arm u ks t) ≡ normal arm u t
arm-mends = mends-then arm arm-laws

-- 512 words of sixteen Root granules, limit 1: what that mend leaves is not whole, so mend to the end before the next set
pub stopped_root : Whole arm 2 (mend arm 2 1 (granules arm arm-laws 2 (lit< tt) 10 refl)) → ⊥
stopped_root = stopped_not_whole arm arm-laws 2 (lit< tt) 10 refl

-- ---- worked: what must open to be computed

unfoldable opened : ℕ
unfolding reads reading span every alike largest_alike normal_up_to build normal apply cut repairs mending mend mend_count mends differing nibs
    l1_of
opened = 0

abbrev root : ℕ
root = 0xAAAA_AAAA_AAAA_AAAA

-- two words of Root granules are 2 MB of one GPI; the 32 MB around them isn't
fused : normal arm 2 (root ∷ root ∷ []) ≡ 0x1A1 ∷ 0x1A1 ∷ []
unfolding opened
fused = refl

-- a contiguous word that its range doesn't bear out, and one with ignored bits set
broken-up : normal arm 2 (0x3A1 ∷ 0xBAAA_AAAA_AAAA_AAAA ∷ []) ≡ root ∷ 0xBAAA_AAAA_AAAA_AAAA ∷ []
unfolding opened
broken-up = refl

cleaned : normal arm 2 (0xF3A1 ∷ 0x1A1 ∷ []) ≡ 0x1A1 ∷ 0x1A1 ∷ []
unfolding opened
cleaned = refl

-- "keeps each invalid word"
kept : normal arm 2 (0x2 ∷ 0x3A1 ∷ []) ≡ 0x2 ∷ root ∷ []
unfolding opened
kept = refl

-- "writes upward, only words that differ, stops at the limit and reports how many"
stopped : (mend arm 2 1 (root ∷ root ∷ []) ≡ 0x1A1 ∷ root ∷ []) × (mend_count arm 2 1 (root ∷ root ∷ []) ≡ 1)
unfolding opened
stopped = (refl, refl)

only_one : (mend arm 2 9 (0x1A1 ∷ root ∷ []) ≡ 0x1A1 ∷ 0x1A1 ∷ []) × (mend_count arm 2 9 (0x1A1 ∷ root ∷ []) ≡ 1)
unfolding opened
only_one = (refl, refl)

nothing_left : mend_count arm 2 9 (0x1A1 ∷ 0x1A1 ∷ []) ≡ 0
unfolding opened
nothing_left = refl
