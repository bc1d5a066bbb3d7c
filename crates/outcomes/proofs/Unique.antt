-- Each public contract has one outcome: whatever two runs of a call meet it on the same input, refused ones too, they agree in all that is
-- handed back and in every word that the call may write. The clause of each contract stands as its function has it, under the function's
-- name; the inputs are the sections' parameters. Those with more to leave than an answer are also met by the definition's own outcome, so
-- that none is empty.
use mathlib.Core.Path.{◌≡◌, refl, sym, ◌∙◌, ap, ap₂}
use mathlib.Core.Bool.{Bool}
use mathlib.Core.List.{List}
use Prim.Native.Nat.{ℕ, ◌+◌, ◌%◌, ◌≤◌}
use native.Mathlib.Omega.{arith}
use lib.Dec.{eqb}
use lib.ListN.{length}
use Rattle.std.specs.Prelude.{Option, Some, None, Result, Ok, Err, ℤ}
use Rattle.std.specs.Result.{result_ok}
use Rattle.gpi.specs.declared.Gpi.{Gpi}
use Rattle.gpi.specs.declared.Size.{Size}
use Rattle.gpi.specs.declared.Unknown.{Unknown}
use Rattle.gpi.specs.Gpi.{num, gpi_at, known_at}
use Rattle.gpi.specs.Size.{size_num, size_at, bytes_of, smaller_of}
use Rattle.pa.specs.declared.PA.{PA}
use Rattle.pa.specs.Pa.{pa, aligned_down, distance_of}
use Rattle.granules.specs.Nibs.{nib, nibs, all}
use Rattle.granules.specs.Packed.{granule_word, gpis_of, put}
use Rattle.l0.specs.declared.L0Entry.{L0Entry}
use Rattle.l0.specs.L0.{l0_of, block_word, table_word_of}
use Rattle.l1.specs.declared.L1Entry.{L1Entry}
use Rattle.l1.specs.L1.{l1_of, match_at, contig_word, flat, read_at}
use Rattle.config.specs.declared.Config.{Config}
use Rattle.config.specs.declared.Widths.{Widths}
use Rattle.config.specs.declared.ConfigError.{ConfigError}
use Rattle.config.specs.Fields.{pps_width, pgs_width, l0gptsz_width, configured_of, supported_of}
use Rattle.config.specs.Index.{l0_entries, l0_index, l1_words, l1_index, granule_index, granule_bytes, size_words}
use Rattle.config.specs.Flags.{config_of}
use Rattle.resolve.specs.declared.Ask.{Ask}
use Rattle.resolve.specs.declared.Refusal.{Refusal}
use Rattle.resolve.specs.declared.Call.{Call}
use Rattle.resolve.specs.declared.Place.{Place}
use Rattle.resolve.specs.Refusals.{refusal_number, config_refusal, arena_bad, log_short, gpi_bad}
use Rattle.resolve.specs.Place.{asks, place_of}
use Rattle.resolve.specs.Lent.{Lent, lent}
use Rattle.set_table.specs.declared.Changed.{Changed}
use Rattle.gpt.specs.Lookup.{granted, lookup_of}
use Rattle.gpt.specs.Set.{Made, set_of}
use Rattle.mend.specs.Outcome.{Left, mend_of, check_of}
use Rattle.abi.specs.Packed.{looked_packed, checked_packed}
use Rattle.abi.specs.Left.{SetLeft, MendLeft}
use Rattle.view.specs.declared.NoGpi.{NoGpi}
use Rattle.view.specs.Reads.{seen_at, held_at}
use Rattle.dump_image.specs.declared.Fault.{Fault}
use Rattle.dump_image.specs.declared.Image.{Image}
use Rattle.dump_image.specs.Image.{read_of, front_of, fault_number}
use Rattle.dump_lines.specs.Digits.{dec}
use Rattle.dump_lines.specs.Lines.{name, header}
use Rattle.dump_text.specs.declared.Chunk.{Chunk}
use Rattle.dump_text.specs.Chunks.{Step, none, Chunked, table_steps, dump_steps}
use Rattle.outcomes.specs.Unique.{One}

-- ---- the pattern: what is a given thing is one; with more than one part, part by part

same : {X : Type 0} {a b c : X} → a ≡ c → b ≡ c → a ≡ b
same e f = e ∙ sym f

is : {O : Type 0} (a : O) → One (λ (r : O). r ≡ a)
is a r q e f = same e f

both : {X Y : Type 0} {p q : X × Y} → p.0 ≡ q.0 → p.1 ≡ q.1 → p ≡ q
both e f = ap₂ (λ a b. (a, b)) e f

-- a number that is known has one value, and one that isn't has one error
known : {X : Type 0} (o : Option X) → One (λ (r : Result X Unknown). result_ok r ≡ o)
known {X} o r q e f = one r q (same e f)
  where
    one : (r q : Result X Unknown) → result_ok r ≡ result_ok q → r ≡ q
    one (Ok a) (Ok b) e = let k : a ≡ b = cc in ap (λ (x : X). Ok x) k
    one (Ok a) (Err u) e = absurd (let z : ◌≡◌ {A = ℕ} 0 1 = cc in omega arith)
    one (Err u) (Ok b) e = absurd (let z : ◌≡◌ {A = ℕ} 0 1 = cc in omega arith)
    one (Err u) (Err v) e = refl

-- ---- the calls: what is lent, the address; a log and a GPI's number; a mend's limit

module _ (q : Lent) (x : ℕ) where
  pub gpt_lookup : One (λ (r : Result Gpi Refusal). r ≡ lookup_of q x)
  gpt_lookup = is _

  pub mend-check : One (λ (r : Result Bool Refusal). r ≡ check_of q x)
  mend-check = is _

  module _ (L : List ℕ) (g : ℕ) where
    pub gpt_set : One (λ (o : Result Changed Refusal × (List ℕ × List ℕ)). Made (set_of q L x g) o.0 o.1.0 o.1.1)
    gpt_set r s m n = both (same m.answer n.answer) (both (same m.arena n.arena) (same m.log n.log))

    pub gpt_set_met : let o = set_of q L x g in Made o o.answer o.left.arena o.log
    gpt_set_met = record { answer = refl; arena = refl; log = refl }

  module _ (k : ℕ) where
    pub mend-mend : One (λ (o : Result ℕ Refusal × List ℕ). Left (mend_of q x k) o.0 o.1)
    mend-mend r s m n = both (same m.answer n.answer) (same m.arena n.arena)

    pub mend-mend_met : let o = mend_of q x k in Left o o.answer o.left.arena
    mend-mend_met = record { answer = refl; arena = refl }

-- ---- the same for C and Rust: fields by their numbers, flags in one byte

module _ (p g l f : ℕ) (T A : List ℕ) (b x : ℕ) where
  abbrev q : Lent
  q = lent (config_of p g l f) T A b

  pub abi_gpt_lookup : One (λ (r : ℕ). r ≡ looked_packed (lookup_of q x))
  abi_gpt_lookup = is _

  pub abi_gpt_check : One (λ (r : ℕ). r ≡ checked_packed (check_of q x))
  abi_gpt_check = is _

  pub abi_gpt_set : (L : List ℕ) (n : ℕ) → One (λ (o : ℕ × (List ℕ × List ℕ)). SetLeft (set_of q L x n) o.0 o.1.0 o.1.1)
  abi_gpt_set L n r v s t = both (same s.answer t.answer) (both (same s.arena t.arena) (same s.log t.log))

  pub abi_gpt_mend : (k : ℕ) → One (λ (o : ℕ × List ℕ). MendLeft (mend_of q x k) o.0 o.1)
  abi_gpt_mend k r v s t = both (same s.answer t.answer) (same s.arena t.arena)

-- ---- the dump: the bytes of an image, a buffer, the place in the text

pub dump_image_parse : (s : List ℕ) → One (λ (r : Result Image Fault). r ≡ read_of s)
dump_image_parse s = is _

pub dump_image_parse_front : (s : List ℕ) → One (λ (r : Result Image Fault). r ≡ front_of s)
dump_image_parse_front s = is _

pub dump_image_u64_from : (f : Fault) → One (λ (n : ℕ). n ≡ fault_number f)
dump_image_u64_from f = is _

chunk_of : {r q : Chunk} → r.written ≡ q.written → r.next ≡ q.next → r.done ≡ q.done → r ≡ q
chunk_of {r = r} {q = q} e f g = ap₂ (λ w n. record { written = w; next = n; done = r.done }) e f
    ∙ ap (λ d. record { written = q.written; next = q.next; done = d }) g

-- a chunk of what is left: where it ends is told by the buffer's room, and whether it is the last by where it ends
module _ (S : ℕ → List Step) (k : ℕ) (o : List ℕ) where
  chunked : One (λ (a : Chunk × List ℕ). Chunked S k 0 o a.1 a.0)
  chunked r q m n = both (chunk_of (same m.written n.written) (same m.next n.next) ends) (same m.bytes n.bytes)
    where
      ends : r.0.done ≡ q.0.done
      ends = m.done ∙ (ap (λ j. none (S j)) (same m.next n.next) ∙ sym n.done)

pub dump_text-dump_chunk : (s : List ℕ) (k : ℕ) (o : List ℕ) → One (λ (a : Chunk × List ℕ). Chunked (dump_steps s) k 0 o a.1 a.0)
dump_text-dump_chunk s = chunked (dump_steps s)

pub dump_text-table_chunk : (q : Lent) (k : ℕ) (o : List ℕ) → One (λ (a : Chunk × List ℕ). Chunked (table_steps q) k 0 o a.1 a.0)
dump_text-table_chunk q = chunked (table_steps q)

-- ---- the view of a table t: its words, the granule width, an address

module _ (t : List ℕ) (width d : ℕ) where
  pub view_word_at : One (λ (s : Option ℕ). s ≡ seen_at t width d)
  view_word_at = is _

  pub view_gpi_at : One (λ (s : Result Gpi NoGpi). s ≡ held_at t width d)
  view_gpi_at = is _

-- ---- the leaves

module _ (n : ℕ) where
  pub gpi-is_valid : One (λ (r : Bool). r ≡ known_at n)
  gpi-is_valid = is _

  pub gpi-gpi_try_from : One (λ (r : Result Gpi Unknown). result_ok r ≡ gpi_at n)
  gpi-gpi_try_from = known _

  pub gpi-size_try_from : One (λ (r : Result Size Unknown). result_ok r ≡ size_at n)
  gpi-size_try_from = known _

  pub config_pps_width : One (λ (r : Option ℕ). r ≡ pps_width n)
  config_pps_width = is _

  pub config_pgs_width : One (λ (r : Option ℕ). r ≡ pgs_width n)
  config_pgs_width = is _

  pub config_l0gptsz_width : One (λ (r : Option ℕ). r ≡ l0gptsz_width n)
  config_l0gptsz_width = is _

module _ (g : Gpi) (s : Size) where
  pub gpi-u64_from_gpi : One (λ (r : ℕ). r ≡ num g)
  gpi-u64_from_gpi = is _

  pub gpi-u64_from_size : One (λ (r : ℕ). r ≡ size_num s)
  gpi-u64_from_size = is _

  pub gpi-bytes : One (λ (r : ℕ). r ≡ bytes_of s)
  gpi-bytes = is _

  pub gpi-next_smaller : One (λ (r : Option Size). r ≡ smaller_of s)
  gpi-next_smaller = is _

  pub l0_block : One (λ (r : ℕ). r ≡ block_word g)
  l0_block = is _

  pub l1_contig : One (λ (r : ℕ). r ≡ contig_word s g)
  l1_contig = is _

module _ (a b : PA) where
  pub pa-sub : One (λ (r : Option ℤ). r ≡ distance_of a.0 b.0)
  pa-sub = is _

  pub l0_table : One (λ (r : Option ℕ). r ≡ table_word_of a.0)
  l0_table = is _

pub pa-align_down : (a : PA) (n : ℕ) → One (λ (r : PA). r.0 ≡ aligned_down a.0 n)
pa-align_down a n r q e f = ap pa (same e f)

module _ (w : ℕ) where
  pub l0_try_from : One (λ (r : Result L0Entry Unknown). result_ok r ≡ l0_of w)
  l0_try_from = known _

  pub l1_try_from : One (λ (r : Result L1Entry Unknown). result_ok r ≡ l1_of w)
  l1_try_from = known _

  pub granules_all_valid : One (λ (r : Bool). r ≡ all known_at (nibs 16 w))
  granules_all_valid = is _

  pub granules_gpis : One (λ (r : List Gpi). r ≡ gpis_of w)
  granules_gpis = is _

  pub l1_flat : One (λ (r : ℕ). r ≡ flat w)
  l1_flat = is _

pub granules_granule : (gs : List Gpi) → One (λ (r : ℕ). r ≡ granule_word gs)
granules_granule gs = is _

module _ (w : ℕ) (g : Gpi) where
  pub granules_all_gpi : One (λ (r : Bool). r ≡ all (eqb (num g)) (nibs 16 w))
  granules_all_gpi = is _

  pub l1_matches_gpi : One (λ (r : Option Bool). r ≡ match_at w g)
  l1_matches_gpi = is _

module _ (w i : ℕ) where
  pub granules_gpi_at : One (λ (r : Option Gpi). r ≡ gpi_at (nib w i))
  granules_gpi_at = is _

  pub l1_read : One (λ (r : Option Gpi). r ≡ read_at w i)
  l1_read = is _

  pub granules_set_gpi : (g : Gpi) → One (λ (r : ℕ). r ≡ put w i (num g))
  granules_set_gpi g = is _

pub granules_index_of : (n : ℕ) → One (λ (r : ℕ). r ≡ n % 16)
granules_index_of n = is _

pub granules_u64_from : (i : ℕ) → One (λ (r : ℕ). r ≡ i)
granules_u64_from i = is _

pub config_configure : (c : Config) → One (λ (r : Result Widths ConfigError). r ≡ configured_of c)
config_configure c = is _

pub config_is_gpi_supported : (c : Config) (g : Gpi) → One (λ (r : Bool). r ≡ supported_of c g)
config_is_gpi_supported c g = is _

-- what the widths give
module _ (w : Widths) (a : PA) (s : Size) where
  pub config_l0_entries : One (λ (r : ℕ). r ≡ l0_entries w)
  config_l0_entries = is _

  pub config_l0_resolve : One (λ (r : ℕ). r ≡ l0_index w a.0)
  config_l0_resolve = is _

  pub config_l1_words : One (λ (r : ℕ). r ≡ l1_words w)
  config_l1_words = is _

  pub config_l1_resolve : One (λ (r : ℕ). r ≡ l1_index w a.0)
  config_l1_resolve = is _

  pub config_granule_resolve : One (λ (r : ℕ). r ≡ granule_index w a.0)
  config_granule_resolve = is _

  pub config_granule_bytes : One (λ (r : ℕ). r ≡ granule_bytes w)
  config_granule_bytes = is _

  pub config_size_words : One (λ (r : ℕ). r ≡ size_words w s)
  config_size_words = is _

pub resolve_u64_from : (e : Refusal) → One (λ (r : ℕ). r ≡ refusal_number e)
resolve_u64_from e = is _

pub resolve_refusal_from : (e : ConfigError) → One (λ (r : Refusal). r ≡ config_refusal e)
resolve_refusal_from e = is _

pub resolve_arena_bad : (b : PA) (n : ℕ) → One (λ (r : Bool). r ≡ arena_bad b.0 n)
resolve_arena_bad b n = is _

pub resolve_log_short : (k : Call) → One (λ (r : Bool). r ≡ log_short k)
resolve_log_short k = is _

pub resolve_gpi_bad : (c : Config) (k : Call) → One (λ (r : Bool). r ≡ gpi_bad c k)
resolve_gpi_bad c k = is _

pub gpt_grant : (c : Config) (g : Gpi) (e : Refusal) → One (λ (r : Result Gpi Refusal). r ≡ granted c g e)
gpt_grant c g e = is _

module _ (p g l f : ℕ) where
  pub config_from_flags : One (λ (r : Config). r ≡ config_of p g l f)
  config_from_flags = is _

pub abi_pack_looked : (a : Result Gpi Refusal) → One (λ (r : ℕ). r ≡ looked_packed a)
abi_pack_looked a = is _

pub abi_pack_checked : (a : Result Bool Refusal) → One (λ (r : ℕ). r ≡ checked_packed a)
abi_pack_checked a = is _

pub resolve_resolve : (q : Ask) (l : List ℕ) → One (λ (r : Result Place Refusal). r ≡ place_of q l)
resolve_resolve q l = is _

pub gpt_place : (c : Config) (n : ℕ) (b x : PA) (k : Call) (l : List ℕ) → One (λ (r : Result Place Refusal). r ≡ place_of (asks c n b.0 k x.0) l)
gpt_place c n b x k l = is _

-- how long a line of the dump is
pub dump_lines_line_len : (a : Result Gpi Refusal) → One (λ (r : ℕ). r ≡ 29 + length (name a))
dump_lines_line_len a = is _

pub dump_lines_header_len : (w : Widths) → One (λ (r : ℕ). r ≡ length (header w))
dump_lines_header_len w = is _

pub dump_lines_dec_len : (x : ℕ) → One (λ (r : ℕ). (r ≡ length (dec x)) × (r ≤ 20))
dump_lines_dec_len x r q m n = same m.0 n.0
