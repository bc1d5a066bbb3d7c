-- Laws of `l1`: sixteen GPIs and a word of granules. What was made is one, and what was read back are its granules.
use mathlib.Core.Path.{◌≡◌, ap, ◌∙◌}
use mathlib.Core.List.{List, map}
use Prim.Native.Nat.{ℕ, ◌^◌, ◌<◌}
use lib.ListN.{length}
use Rattle.std.specs.Prelude.{Some}
use Rattle.gpi.specs.declared.Gpi.{Gpi}
use Rattle.gpi.specs.Gpi.{num, known_at}
use Rattle.granules.specs.Nibs.{nibs, word, all}
use Rattle.granules.specs.Packed.{granule_word, gpis_of}
use Rattle.l1.specs.L1.{l1_of}
use Rattle.granules.proofs.Digits.{word-nibs}
use Rattle.granules.proofs.Packed.{known_nums, back_nums, nibs-packed}
use Rattle.l1.proofs.Entries.{l1_granules, granules_known}
use Rattle.l1.specs.declared.L1Entry.TheVariants.{Granules}

-- the GPIs of a word of granules have its nibbles as their numbers
pub gpis_nibs : (w : ℕ) → l1_of w ≡ Some Granules → map num (gpis_of w) ≡ nibs 16 w
unfolding gpis_of
gpis_nibs w e = back_nums (nibs 16 w) (granules_known w e)

-- the word of sixteen GPIs is one of granules
pub l1_packed : (a : List Gpi) → length a ≡ 16 → l1_of (granule_word a) ≡ Some Granules
l1_packed a e = l1_granules (granule_word a) (ap (all known_at) (nibs-packed a e) ∙ known_nums a)

-- a word of granules read into sixteen GPIs and made again
pub back_and_there : (w : ℕ) → w < 2 ^ 64 → l1_of w ≡ Some Granules → granule_word (gpis_of w) ≡ w
back_and_there w h e = ap word (gpis_nibs w e) ∙ word-nibs 16 w h
