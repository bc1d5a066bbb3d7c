-- Worked examples of the definitions of `l1`, by computation alone: the L1 words of document 01's cases.
use mathlib.Core.Path.{◌≡◌, refl}
use Rattle.std.specs.Prelude.{None, Some, true, false}
use Rattle.gpi.specs.declared.Gpi.TheVariants.{Root, Realm}
use Rattle.gpi.specs.declared.Size.TheVariants.{MB32, MB512}
use Rattle.granules.specs.Nibs.{nibs, word}
use Rattle.granules.specs.Packed.{put}
use Rattle.l1.specs.L1.{l1_of, contig_word, flat, read_at, match_at}
use Rattle.l1.specs.declared.L1Entry.TheVariants.{Contiguous, Granules}

-- one opener for all of them
unfoldable opened : Type 0
unfolding l1_of nibs word
opened = Unit {0}

contiguous : l1_of 0x3A1 ≡ Some (Contiguous Root MB512)
unfolding opened
contiguous = refl

contiguous_noise : l1_of 0xFFFF_FFFF_FFFF_FFA1 ≡ Some (Contiguous Root MB512)
unfolding opened
contiguous_noise = refl

size_none : l1_of 0x0A1 ≡ None
unfolding opened
size_none = refl

reserved : l1_of 0x2 ≡ None
unfolding opened
reserved = refl

-- one reserved nibble, the highest, makes the lowest granule unread
reserved_high : read_at 0x1AAA_AAAA_AAAA_AAAA 0 ≡ None
unfolding opened
reserved_high = refl

granules : l1_of 0xAAAA_AAAA_AAAA_AAAA ≡ Some Granules
unfolding opened
granules = refl

-- lowest address in the low nibble
reads : (read_at 0xAAAA_AAAA_AAAA_AAAB 0 ≡ Some Realm) × (read_at 0xAAAA_AAAA_AAAA_AAAB 15 ≡ Some Root)
unfolding opened
reads = (refl, refl)

stored : put 0xAAAA_AAAA_AAAA_AAAA 0 11 ≡ 0xAAAA_AAAA_AAAA_AAAB
unfolding opened
stored = refl

flattened : flat 0x3A1 ≡ 0xAAAA_AAAA_AAAA_AAAA
unfolding opened
flattened = refl

made-contiguous : contig_word MB32 Root ≡ 0x2A1
made-contiguous = refl

matched : (match_at 0x1A1 Root ≡ Some true) × (match_at 0xAAAA_AAAA_AAAA_AAAA Root ≡ Some true)
unfolding opened
matched = (refl, refl)

unmatched : (match_at 0x1A1 Realm ≡ Some false) × (match_at 0xBAAA_AAAA_AAAA_AAAA Root ≡ Some false) × (match_at 0x2AAA_AAAA_AAAA_AAAB Root ≡ None)
unfolding opened
unmatched = (refl, refl, refl)
