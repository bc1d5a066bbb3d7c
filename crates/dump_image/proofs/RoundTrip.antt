-- What is written is read back: the image of every lawful content, in every known version, reads as its fields and its words. Crate
-- `dump_image`.
use mathlib.Core.Path.{◌≡◌, refl, sym, ap, ap₂, ◌∙◌, subst}
use mathlib.Core.List.{List, [], ◌∷◌, ◌++◌, append_assoc, append-nil}
use Prim.Native.Nat.{ℕ, zero, suc, ◌+◌, ◌*◌, ◌/◌, ◌%◌, ◌^◌, ◌<◌}
use native.Mathlib.Nat.{pow-suc, add_assoc, div-lt_iff_lt-mul}
use native.Mathlib.Omega.{arith}
use borrow.Author.Tests.{le-ltb}
use lib.Arith.{lt-one}
use lib.Dec.{lit<}
use lib.ListN.{length, get_or, length-append}
use lib.Seq.{get_or-append-add, get_or_at}
use Rattle.pa.specs.Pa.{pa}
use Rattle.config.specs.declared.Config.{Config}
use Rattle.config.proofs.Flags.{flags_back}
use Rattle.dump_image.specs.declared.Image.{Image}
use Rattle.dump_image.specs.Image.{big_endian, words_from, head_of, fields_at, told_length}
use Rattle.dump_image.specs.Image.{l0_count, arena_count, front_of, read_of, l0_words, arena_words}
use Rattle.dump_image.specs.Encoding.{Content, Below, Lawful, bytes, words_bytes, fields_of, rest_of, image_of}
use Rattle.dump_image.proofs.Fits.{each_version, fields-few, front-whole}
use Rattle.std.specs.Prelude.{Ok, Some}

-- ---- numbers and words

pub length-bytes : (n w : ℕ) → length (bytes n w) ≡ n
unfolding bytes
length-bytes zero w = refl
length-bytes (suc n) w = length-append (bytes n (w / 256)) (w % 256 ∷ []) ∙ (let h = length-bytes n (w / 256) in omega arith)

-- what stands before does not count
number-skip : (a s : List ℕ) (i n : ℕ) → big_endian (a ++ s) (length a + i) n ≡ big_endian s i n
unfolding big_endian
number-skip a s i zero = refl
number-skip a s i (suc n) =
    ap₂ (λ (x y : ℕ). x * 256 + y) (number-skip a s i n)
    (ap (λ (k : ℕ). get_or (a ++ s) k 0) (add_assoc (length a) i n) ∙ get_or-append-add a s (i + n) 0)

skip : (a s : List ℕ) (i j n : ℕ) → i ≡ length a + j → big_endian (a ++ s) i n ≡ big_endian s j n
skip a s i j n e = ap (λ (k : ℕ). big_endian (a ++ s) k n) e ∙ number-skip a s j n

number-here : (n w : ℕ) (q : List ℕ) → w < 256 ^ n → big_endian (bytes n w ++ q) 0 n ≡ w
unfolding big_endian bytes
number-here zero w q h = sym (lt-one h)
number-here (suc n) w q h =
    let p : w < 256 ^ n * 256 = subst (λ (k : ℕ). w < k) (pow-suc 256 n) h in
    let e : (bytes n (w / 256) ++ (w % 256 ∷ [])) ++ q ≡ bytes n (w / 256) ++ (w % 256 ∷ q) = append_assoc (bytes n (w / 256))
    (w % 256 ∷ []) q in
    ap₂ (λ (x y : ℕ). x * 256 + y)
    (ap (λ (l : List ℕ). big_endian l 0 n) e ∙ number-here n (w / 256) (w % 256 ∷ q) ((div-lt_iff_lt-mul (lit< tt)).1 p))
    (ap (λ (l : List ℕ). get_or l (0 + n) 0) e ∙ get_or_at (bytes n (w / 256)) (w % 256) q 0 (0 + n) (length-bytes n (w / 256) ∙ omega arith))
    ∙ omega arith

words_skip : (a s : List ℕ) (i n : ℕ) → words_from (a ++ s) (length a + i) n ≡ words_from s i n
unfolding words_from
words_skip a s i zero = refl
words_skip a s i (suc n) =
    ap₂ (λ (x : List ℕ) (y : ℕ). x ++ (y ∷ [])) (words_skip a s i n)
    (ap (λ (k : ℕ). big_endian (a ++ s) k 8) (add_assoc (length a) i (8 * n)) ∙ number-skip a s (i + 8 * n) 8)

-- the first word apart
words_first : (s : List ℕ) (i n : ℕ) → words_from s i (suc n) ≡ big_endian s i 8 ∷ words_from s (i + 8) n
unfolding words_from
words_first s i zero = ap (λ (k : ℕ). big_endian s k 8 ∷ []) (omega arith)
words_first s i (suc n) =
    ap (λ (l : List ℕ). l ++ (big_endian s (i + 8 * suc n) 8 ∷ [])) (words_first s i n)
    ∙ ap (λ (k : ℕ). big_endian s i 8 ∷ (words_from s (i + 8) n ++ (big_endian s k 8 ∷ []))) (omega arith)

words_here : (ws q : List ℕ) → Below (2 ^ 64) ws → words_from (words_bytes ws ++ q) 0 (length ws) ≡ ws
unfolding words_from words_bytes
words_here [] q h = refl
words_here (w ∷ ws) q h =
    let e : (bytes 8 w ++ words_bytes ws) ++ q ≡ bytes 8 w ++ (words_bytes ws ++ q) = append_assoc (bytes 8 w) (words_bytes ws) q in
    ap (λ (l : List ℕ). words_from l 0 (suc (length ws))) e
    ∙ words_first (bytes 8 w ++ (words_bytes ws ++ q)) 0 (length ws)
    ∙ ap₂ (λ (x : ℕ) (y : List ℕ). x ∷ y) (number-here 8 w (words_bytes ws ++ q) h.0)
    (ap (λ (k : ℕ). words_from (bytes 8 w ++ (words_bytes ws ++ q)) k (length ws)) (let l = length-bytes 8 w in omega arith)
    ∙ words_skip (bytes 8 w) (words_bytes ws ++ q) 0 (length ws) ∙ words_here ws q h.1)

length-words_bytes : (ws : List ℕ) → length (words_bytes ws) ≡ 8 * length ws
unfolding words_bytes
length-words_bytes [] = refl
length-words_bytes (w ∷ ws) =
    length-append (bytes 8 w) (words_bytes ws) ∙ (let h = length-words_bytes ws in let l = length-bytes 8 w in omega arith)

-- ---- the versions

-- a known version's fields are as long as it says, and are read back
pub fields-length : (v n : ℕ) → head_of v ≡ Some n → (c : Config) → length (fields_of v c) ≡ n
fields-length = each_version (λ (v n : ℕ). (c : Config) → length (fields_of v c) ≡ n) (λ c. refl)

fields_back : (v n : ℕ) → head_of v ≡ Some n → (w : ℕ) (c : Config) (b : List ℕ)
    → fields_at v ((v ∷ []) ++ (bytes 4 w ++ (fields_of v c ++ b))) ≡ c
unfolding bytes
fields_back =
    each_version (λ (v n : ℕ). (w : ℕ) (c : Config) (b : List ℕ) → fields_at v ((v ∷ []) ++ (bytes 4 w ++ (fields_of v c ++ b))) ≡ c)
    (λ w c b. flags_back c)

-- ---- the image

-- the fields, the base and the lengths of a content, as an image with n bytes of fields tells them
abbrev pub told : ℕ → Content → Image
told n x =
    record {
      config = x.config;
      base = pa x.base;
      l0 = length x.l0;
      arena = length x.arena;
      words = 21 + n;
      end = 21 + n + 8 * (length x.l0 + length x.arena);
    }

pub rest_length : (v n : ℕ) → head_of v ≡ Some n → (x : Content) → length (rest_of v x) ≡ 16 + n + 8 * (length x.l0 + length x.arena)
unfolding rest_of
rest_length v n known x =
    let f = fields-length v n known x.config in simp (length-append, length-bytes, length-words_bytes) (omega arith)

-- whatever follows it
module _ (v n : ℕ) (known : head_of v ≡ Some n) (x : Content) (ok : Lawful x) (q : List ℕ) where
  abbrev F : List ℕ
  F = fields_of v x.config

  abbrev T : ℕ
  T = length (rest_of v x)

  abbrev tail : List ℕ
  tail = words_bytes x.l0 ++ (words_bytes x.arena ++ q)

  abbrev counts : List ℕ
  counts = bytes 4 (length x.l0) ++ (bytes 4 (length x.arena) ++ tail)

  abbrev all : List ℕ
  all = (v ∷ []) ++ (bytes 4 T ++ (F ++ (bytes 8 x.base ++ counts)))

  parts : image_of v x ++ q ≡ all
  unfolding image_of rest_of
  parts = simp append_assoc

  all-length : length all ≡ 21 + n + 8 * (length x.l0 + length x.arena) + length q
  all-length = let f = fields-length v n known x.config in simp (length-append, length-bytes, length-words_bytes) (omega arith)

  -- the numbers behind the fields
  past : (i j k : ℕ) → j ≡ 5 + n + i → big_endian all j k ≡ big_endian (bytes 8 x.base ++ counts) i k
  past i j k e =
      let f = fields-length v n known x.config in
      skip (v ∷ []) _ j (4 + n + i) k (omega arith) ∙ skip (bytes 4 T) _ (4 + n + i) (n + i) k (let l = length-bytes 4 T in omega arith)
      ∙ skip F _ (n + i) i k (omega arith)

  told_back : 5 + told_length all ≡ 21 + n + 8 * (length x.l0 + length x.arena)
  told_back =
      let r = rest_length v n known x in let a = ok.l0_most in let b = ok.arena_most in let f = fields-few v n known in
      let t = skip (v ∷ []) _ 1 0 4 refl ∙ number-here 4 T (F ++ (bytes 8 x.base ++ counts)) (omega arith) in
      omega arith

  base_back : big_endian all (5 + n) 8 ≡ x.base
  base_back = past 0 (5 + n) 8 (omega arith) ∙ number-here 8 x.base counts ok.base

  l0-count-back : l0_count n all ≡ length x.l0
  l0-count-back =
      let a = ok.l0_most in let l = length-bytes 8 x.base in
      past 8 (13 + n) 4 (omega arith) ∙ skip (bytes 8 x.base) counts 8 0 4 (omega arith) ∙ number-here 4 (length x.l0) _ (omega arith)

  arena-count-back : arena_count n all ≡ length x.arena
  arena-count-back =
      let a = ok.arena_most in let l = length-bytes 8 x.base in let m = length-bytes 4 (length x.l0) in
      past 12 (17 + n) 4 (omega arith) ∙ skip (bytes 8 x.base) counts 12 4 4 (omega arith)
      ∙ skip (bytes 4 (length x.l0)) _ 4 0 4 (omega arith) ∙ number-here 4 (length x.arena) _ (omega arith)

  -- the image reads as its fields ..
  pub front-back : front_of (image_of v x ++ q) ≡ Ok (told n x)
  front-back =
      ap front_of parts
      ∙ front-whole all (told n x)
      (record {
        fields = n;
        known = known;
        is =
            λ i. record {
              config = sym (fields_back v n known T x.config (bytes 8 x.base ++ counts)) i;
              base = pa (sym base_back i);
              l0 = sym l0-count-back i;
              arena = sym arena-count-back i;
              words = 21 + n;
              end = 21 + n + 8 * (sym l0-count-back i + sym arena-count-back i);
            };
        l0_most = ok.l0_most;
        arena_most = ok.arena_most;
        told = told_back;
        inside = let l = all-length in omega arith;
      })

  -- .. and its words
  abbrev head : List ℕ
  head = (v ∷ []) ++ (bytes 4 T ++ (F ++ (bytes 8 x.base ++ (bytes 4 (length x.l0) ++ bytes 4 (length x.arena)))))

  words-behind : (i k m : ℕ) → k ≡ 21 + n + i → words_from (image_of v x ++ q) k m ≡ words_from tail i m
  words-behind i k m e =
      let h : length head ≡ 21 + n = (let f = fields-length v n known x.config in simp (length-append, length-bytes) (omega arith)) in
      let p : image_of v x ++ q ≡ head ++ tail = parts ∙ simp append_assoc in
      ap₂ (λ (s : List ℕ) (j : ℕ). words_from s j m) p (let z : k ≡ length head + i = omega arith in z) ∙ words_skip head tail i m

  pub l0_back : l0_words (image_of v x ++ q) (told n x) ≡ x.l0
  l0_back = words-behind 0 (21 + n) (length x.l0) (omega arith) ∙ words_here x.l0 (words_bytes x.arena ++ q) ok.l0

  pub arena_back : arena_words (image_of v x ++ q) (told n x) ≡ x.arena
  arena_back =
      let b = length-words_bytes x.l0 in
      words-behind (length (words_bytes x.l0) + 0) (21 + n + 8 * length x.l0) (length x.arena) (omega arith)
      ∙ words_skip (words_bytes x.l0) (words_bytes x.arena ++ q) 0 (length x.arena) ∙ words_here x.arena q ok.arena

-- alone, with nothing after it
pub read_back : (v n : ℕ) → head_of v ≡ Some n → (x : Content) → Lawful x → read_of (image_of v x) ≡ Ok (told n x)
unfolding read_of
read_back v n known x ok =
    let e : image_of v x ++ [] ≡ image_of v x = append-nil (image_of v x) in
    let f : front_of (image_of v x) ≡ Ok (told n x) = ap front_of (sym e) ∙ front-back v n known x ok [] in
    let l : length (image_of v x) ≡ 21 + n + 8 * (length x.l0 + length x.arena) =
    ap length (sym e ∙ parts v n known x ok []) ∙ all-length v n known x ok [] ∙ omega arith in
    rw (f, le-ltb (told n x).end (length (image_of v x)) (omega arith))
