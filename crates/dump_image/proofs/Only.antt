-- Only what is written reads as whole: bytes that read as an image are that of a lawful content, which they tell, in the version that they
-- tell. Crate `dump_image`.
use mathlib.Core.Path.{◌≡◌, refl, sym, ap, ap₂, ◌∙◌, subst}
use mathlib.Core.List.{List, [], ◌∷◌, ◌++◌, append_assoc, append-nil}
use Prim.Native.Nat.{ℕ, zero, suc, ◌+◌, ◌*◌, ◌/◌, ◌%◌, ◌^◌, ◌≤◌, ◌<◌}
use native.Mathlib.Nat.{pow-suc}
use native.Mathlib.Omega.{arith}
use lib.Dec.{lit<}
use lib.ListN.{length, get_or, take, drop, length-drop, take-append-drop, drop_of_length-le}
use lib.Seq.{take-suc, take-add, drop-cons, drop-drop, get_or-drop}
use Rattle.config.proofs.Flags.{flags_again}
use Rattle.dump_image.specs.declared.Image.{Image}
use Rattle.dump_image.specs.Image.{big_endian, words_from, head_of, fields_at, told_length, image_at, front_of, read_of, l0_words, arena_words}
use Rattle.dump_image.specs.Encoding.{Content, Below, Lawful, bytes, words_bytes, fields_of, rest_of, image_of}
use Rattle.dump_image.proofs.Numbers.{length-words}
use Rattle.dump_image.proofs.Fits.{each_version, Fits, front_fits, whole_front}
use Rattle.dump_image.proofs.RoundTrip.{rest_length}
use Rattle.std.specs.Prelude.{Ok, Some}

-- ---- bytes

byte_below : (n : ℕ) (s : List ℕ) (i : ℕ) → 0 < n → Below n s → get_or s i 0 < n
byte_below n [] i p h = p
byte_below n (x ∷ s) zero p h = h.0
byte_below n (x ∷ s) (suc i) p h = byte_below n s i p h.1

below_append : (n : ℕ) (a b : List ℕ) → Below n a → Below n b → Below n (a ++ b)
below_append n [] b h k = k
below_append n (x ∷ a) b h k = (h.0, below_append n a b h.1 k)

words_append : (a b : List ℕ) → words_bytes (a ++ b) ≡ words_bytes a ++ words_bytes b
unfolding words_bytes
words_append [] b = refl
words_append (w ∷ a) b =
    ap (λ (l : List ℕ). bytes 8 w ++ l) (words_append a b) ∙ sym (append_assoc (bytes 8 w) (words_bytes a) (words_bytes b))

module _ (s : List ℕ) (h : Below 256 s) where
  number-below : (i n : ℕ) → big_endian s i n < 256 ^ n
  unfolding big_endian
  number-below i zero = lit< tt
  number-below i (suc n) = let b = byte_below 256 s (i + n) (lit< tt) h in let v = number-below i n in rw pow-suc (omega arith)

  -- a number's bytes are those that it was read from
  bytes-again : (i n : ℕ) → i + n ≤ length s → bytes n (big_endian s i n) ≡ take n (drop i s)
  unfolding big_endian bytes
  bytes-again i zero k = refl
  bytes-again i (suc n) k =
      let b = byte_below 256 s (i + n) (lit< tt) h in
      let q : (big_endian s i n * 256 + get_or s (i + n) 0) / 256 ≡ big_endian s i n = omega arith in
      let r : (big_endian s i n * 256 + get_or s (i + n) 0) % 256 ≡ get_or s (i + n) 0 = omega arith in
      let l = length-drop i s in
      ap₂ (λ (x y : ℕ). bytes n x ++ (y ∷ [])) q r
      ∙ ap₂ (λ (a : List ℕ) (y : ℕ). a ++ (y ∷ [])) (bytes-again i n (omega arith)) (sym (get_or-drop i s n 0))
      ∙ sym (take-suc (drop i s) n 0 (omega arith))

  words-again : (i n : ℕ) → i + 8 * n ≤ length s → words_bytes (words_from s i n) ≡ take (8 * n) (drop i s)
  unfolding words_from words_bytes
  words-again i zero k = refl
  words-again i (suc n) k =
      words_append (words_from s i n) (big_endian s (i + 8 * n) 8 ∷ [])
      ∙ ap₂ (λ (a b : List ℕ). a ++ b) (words-again i n (omega arith))
      (append-nil (bytes 8 (big_endian s (i + 8 * n) 8)) ∙ bytes-again (i + 8 * n) 8 (omega arith)
      ∙ ap (take 8) (sym (drop-drop (8 * n) i s)))
      ∙ sym (take-add (8 * n) 8 (drop i s))
      ∙ ap (λ (m : ℕ). take m (drop i s)) (let z : 8 * n + 8 ≡ 8 * suc n = omega arith in z)

  words-below : (i n : ℕ) → Below (2 ^ 64) (words_from s i n)
  unfolding words_from
  words-below i zero = tt
  words-below i (suc n) =
      below_append (2 ^ 64) (words_from s i n) (big_endian s (i + 8 * n) 8 ∷ []) (words-below i n) (number-below (i + 8 * n) 8, tt)

-- n bytes from index i, one by one
abbrev run : List ℕ → ℕ → ℕ → List ℕ
run s i zero = []
run s i (suc n) = get_or s i 0 ∷ run s (suc i) n

run_take : (s : List ℕ) (i n : ℕ) → i + n ≤ length s → run s i n ≡ take n (drop i s)
run_take s i zero h = refl
run_take s i (suc n) h =
    ap (λ (l : List ℕ). get_or s i 0 ∷ l) (run_take s (suc i) n (omega arith)) ∙ ap (take (suc n)) (sym (drop-cons s i 0 (omega arith)))

-- a part and what follows it are the bytes from there on
part : (s a b : List ℕ) (i n j : ℕ) → j ≡ i + n → a ≡ take n (drop i s) → b ≡ drop j s → a ++ b ≡ drop i s
part s a b i n j e f g =
    ap₂ (λ (x y : List ℕ). x ++ y) f (g ∙ ap (λ (k : ℕ). drop k s) e ∙ sym (drop-drop n i s)) ∙ take-append-drop n (drop i s)

-- the fields of a known version are bytes, and are those that they were read from
pub record Again (s : List ℕ) (v n : ℕ) : Type 0 where
  pub same : fields_of v (fields_at v s) ≡ take n (drop 5 s)
  pub pps : (fields_at v s).pps < 256
  pub pgs : (fields_at v s).pgs < 256
  pub l0gptsz : (fields_at v s).l0gptsz < 256

fields-again : (s : List ℕ) → Below 256 s → (v n : ℕ) → head_of v ≡ Some n → 5 + n ≤ length s → Again s v n
fields-again s h = each_version (λ (v n : ℕ). 5 + n ≤ length s → Again s v n) one
  where
    byte : (i : ℕ) → get_or s i 0 < 256
    byte i = byte_below 256 s i (lit< tt) h

    one : 9 ≤ length s → Again s 1 4
    one l =
        record {
          same =
              ap (λ (y : ℕ). get_or s 5 0 ∷ get_or s 6 0 ∷ get_or s 7 0 ∷ y ∷ [])
              (flags_again (get_or s 5 0) (get_or s 6 0) (get_or s 7 0) (get_or s 8 0) (byte 8))
              ∙ run_take s 5 4 l;
          pps = byte 5;
          pgs = byte 6;
          l0gptsz = byte 7;
        }

-- ---- the content that an image tells

abbrev pub content_of : List ℕ → Image → Content
content_of s f = record { config = f.config; base = f.base.0; l0 = l0_words s f; arena = arena_words s f }

module _ (s : List ℕ) (h : Below 256 s) (n : ℕ) (known : head_of (get_or s 0 0) ≡ Some n) where
  abbrev v : ℕ
  v = get_or s 0 0

  abbrev f : Image
  f = image_at v n s

  module _ (t : Fits s f) where
    fields : Again s v n
    fields = fields-again s h v n known (let i = t.inside in omega arith)

    l0-length : length (l0_words s f) ≡ f.l0
    l0-length = length-words s f.words f.l0

    arena-length : length (arena_words s f) ≡ f.arena
    arena-length = length-words s (f.words + 8 * f.l0) f.arena

    lawful : Lawful (content_of s f)
    lawful =
        let a = t.l0_most in let b = t.arena_most in let k = l0-length in let m = arena-length in
        record {
          pps = fields.pps;
          pgs = fields.pgs;
          l0gptsz = fields.l0gptsz;
          base = number-below s h (5 + n) 8;
          l0_most = omega arith;
          arena_most = omega arith;
          l0 = words-below s h f.words f.l0;
          arena = words-below s h (f.words + 8 * f.l0) f.arena;
        }

    again : image_of v (content_of s f) ++ drop f.end s ≡ s
    unfolding image_of rest_of
    again =
        let C = content_of s f in let e = t.inside in let w = t.told in let a = l0-length in let b = arena-length in
        let L : length (rest_of v C) ≡ told_length s = (let r = rest_length v n known C in omega arith) in
        simp append_assoc
        (part s (v ∷ []) _ 0 1 1 refl (run_take s 0 1 (omega arith))
        (part s (bytes 4 (length (rest_of v C))) _ 1 4 5 refl (ap (bytes 4) L ∙ bytes-again s h 1 4 (omega arith))
        (part s (fields_of v f.config) _ 5 n (5 + n) refl fields.same
        (part s (bytes 8 (big_endian s (5 + n) 8)) _ (5 + n) 8 (13 + n) (omega arith) (bytes-again s h (5 + n) 8 (omega arith))
        (part s (bytes 4 (length (l0_words s f))) _ (13 + n) 4 (17 + n) (omega arith)
        (ap (bytes 4) a ∙ bytes-again s h (13 + n) 4 (omega arith))
        (part s (bytes 4 (length (arena_words s f))) _ (17 + n) 4 (21 + n) (omega arith)
        (ap (bytes 4) b ∙ bytes-again s h (17 + n) 4 (omega arith))
        (part s (words_bytes (l0_words s f)) _ (21 + n) (8 * f.l0) (21 + n + 8 * f.l0) refl (words-again s h (21 + n) f.l0 (omega arith))
        (part s (words_bytes (arena_words s f)) _ (21 + n + 8 * f.l0) (8 * f.arena) f.end (omega arith)
        (words-again s h _ f.arena (omega arith))
        refl))))))))

-- bytes with an image at their front are the image of a lawful content, of the one that they tell, and what follows it
pub only_front : (s : List ℕ) (f : Image) → Below 256 s → front_of s ≡ Ok f
    → Lawful (content_of s f) × (image_of (get_or s 0 0) (content_of s f) ++ drop f.end s ≡ s)
only_front s f h e =
    let t = front_fits s f e in
    let u = subst (Fits s) t.is t in
    subst (λ (g : Image). Lawful (content_of s g) × (image_of (get_or s 0 0) (content_of s g) ++ drop g.end s ≡ s)) (sym t.is)
    (lawful s h t.fields t.known u, again s h t.fields t.known u)

-- bytes that read as whole are such an image
pub only : (s : List ℕ) (f : Image) → Below 256 s → read_of s ≡ Ok f → Lawful (content_of s f) × (image_of (get_or s 0 0) (content_of s f) ≡ s)
only s f h e =
    let w = whole_front s f e in
    let o = only_front s f h w.0 in (
      o.0,
      sym (append-nil _) ∙ ap (λ (r : List ℕ). image_of (get_or s 0 0) (content_of s f) ++ r) (sym (drop_of_length-le s w.1)) ∙ o.1,
    )
