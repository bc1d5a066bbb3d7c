-- The dump's image as it is read: document 01, "Dump image and text". `Encoding` has it the other way, as it is written. Crate
-- `dump_image`.
use Rattle.std.specs.Prelude.{cond, not, ◌||◌, List, [], ◌∷◌, ◌++◌, ℕ, zero, suc, ◌+◌, ◌*◌, eqb, ltb, length, get_or}
use Rattle.pa.specs.Pa.{pa}
use Rattle.config.specs.declared.Config.{Config}
use Rattle.config.specs.Flags.{config_of}
use Rattle.dump_image.specs.declared.Image.{Image}
use Rattle.dump_image.specs.declared.Fault.{Fault}
use Rattle.dump_image.specs.declared.Fault.TheVariants.{Version, Short, Counts, Length}
use Rattle.std.specs.Prelude.{Err, None, Ok, Option, Result, Some}

-- "All big-endian": the number of n bytes from index i, the last of them the lowest
unfoldable pub big_endian : List ℕ → ℕ → ℕ → ℕ
big_endian s i zero = 0
big_endian s i (suc n) = big_endian s i n * 256 + get_or s (i + n) 0

-- n words of eight bytes from index i
unfoldable pub words_from : List ℕ → ℕ → ℕ → List ℕ
words_from s i zero = []
words_from s i (suc n) = words_from s i n ++ (big_endian s (i + 8 * n) 8 ∷ [])

-- ---- the versions

-- "version byte 1": the versions that are known, each with how many bytes its fields are
abbrev pub head_of : ℕ → Option ℕ
head_of v = cond (eqb v 1) (Some 4) None

-- the fields of a version, from byte 5 on: "PPS, PGS, L0GPTSZ, flags"
abbrev pub fields_at : ℕ → List ℕ → Config
fields_at v s = config_of (get_or s 5 0) (get_or s 6 0) (get_or s 7 0) (get_or s 8 0)

-- ---- "version byte 1; 4-byte length of the rest; then PPS, PGS, L0GPTSZ, flags .., arena base (8), L0 count (4), arena count (4), L0
-- words, arena words": the length is at 1, and behind the n bytes of fields the base is at 5 + n, the counts at 13 + n and 17 + n

abbrev pub told_length : List ℕ → ℕ
told_length s = big_endian s 1 4

abbrev pub l0_count : ℕ → List ℕ → ℕ
l0_count n s = big_endian s (13 + n) 4

abbrev pub arena_count : ℕ → List ℕ → ℕ
arena_count n s = big_endian s (17 + n) 4

-- what an image of this version and with n bytes of fields tells: the words start behind the counts, and it ends behind the words
abbrev pub image_at : ℕ → ℕ → List ℕ → Image
image_at v n s =
    record {
      config = fields_at v s;
      base = pa (big_endian s (5 + n) 8);
      l0 = l0_count n s;
      arena = arena_count n s;
      words = 21 + n;
      end = 21 + n + 8 * (l0_count n s + arena_count n s);
    }

-- the words of an image
abbrev pub l0_words : List ℕ → Image → List ℕ
l0_words s f = words_from s f.words f.l0

abbrev pub arena_words : List ℕ → Image → List ℕ
arena_words s f = words_from s (f.words + 8 * f.l0) f.arena

-- ---- "Refusals, in this order": a test that is met refuses, else the next line goes on

-- by what the image tells, the length that it tells, and how many bytes there are
abbrev pub verdict_of : Image → ℕ → ℕ → Result Image Fault
verdict_of f told m =
    -- 3: "count above its limit"; "At most 64 L0 and 4,096 arena words"
    cond (ltb 64 f.l0 || ltb 4096 f.arena) (Err Counts)
    -- 2: "or, with both counts in their limits, before the last word"
    (cond (ltb m f.end) (Err Short)
    -- 4: "length wrong": it is that of the rest behind version and length, "20 + 8 x both counts" with four bytes of fields
    (cond (not (eqb (5 + told) f.end)) (Err Length)
    (Ok f)))

abbrev pub headed_of : List ℕ → ℕ → Option ℕ → Result Image Fault
-- 1: "version"
headed_of s v None = Err Version
-- 2: "Short means ending before the counts end"
headed_of s v (Some n) = cond (ltb (length s) (21 + n)) (Err Short) (verdict_of (image_at v n s) (told_length s) (length s))

-- the image at the front of some bytes, whatever follows it; 1: "or empty input"
unfoldable pub front_of : List ℕ → Result Image Fault
front_of s = cond (eqb (length s) 0) (Err Version) (headed_of s (get_or s 0 0) (head_of (get_or s 0 0)))

-- 4: "or bytes after it"
abbrev pub alone_of : ℕ → Result Image Fault → Result Image Fault
alone_of m (Err f) = Err f
alone_of m (Ok f) = cond (ltb f.end m) (Err Length) (Ok f)

-- the image that some bytes are
unfoldable pub read_of : List ℕ → Result Image Fault
read_of s = alone_of (length s) (front_of s)

-- the paper's number of each fault
abbrev pub fault_number : Fault → ℕ
fault_number Version = 1
fault_number Short = 2
fault_number Counts = 3
fault_number Length = 4
