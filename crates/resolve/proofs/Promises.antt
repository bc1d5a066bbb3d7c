-- Crate resolve. What a place promises, read off the order of refusals: callers, mend and the cut's theorem cite it.
use mathlib.Core.Path.{◌≡◌, refl, sym, ap, ◌∙◌, subst}
use mathlib.Core.Bool.{Bool, true, false, cond, not}
use mathlib.Core.List.{List, ◌++◌}
use Prim.Native.Nat.{ℕ, ◌+◌, ◌-◌, ◌*◌, ◌%◌, ◌≤◌, ◌<◌, ◌^◌}
use native.Mathlib.Nat.{lt_of_lt_of_le}
use native.Mathlib.Omega.{arith}
use borrow.Author.Tests.{le-ltb}
use lib.Dec.{lit<}
use lib.ListN.{length, get_or, drop, length-drop, length-append, get_or-append}
use lib.Seq.{length-take-le, get_or-take, get_or-drop}
use Rattle.std.specs.Prelude.{Err, None, Ok, Option, Result, Some}
use Rattle.gpi.specs.declared.Gpi.{Gpi}
use Rattle.gpi.specs.declared.Size.TheVariants.{MB2, MB512}
use Rattle.pa.specs.declared.PA.{PA}
use Rattle.pa.specs.Pa.{pa}
use Rattle.theory.specs.Normal.{span}
use Rattle.config.specs.declared.Config.{Config}
use Rattle.config.specs.declared.Widths.{Widths}
use Rattle.config.specs.Index.{l0_entries, l0_index, l1_words, l1_index, size_words}
use Rattle.config.specs.Fields.{configured_of, supported_of}
use Rattle.config.specs.Widths.{Listed}
use Rattle.config.specs.declared.ConfigError.{ConfigError}
use Rattle.config.specs.declared.ConfigError.TheVariants.{GptNotInitialized, InvalidConfiguration}
use Rattle.config.proofs.Bounds.{listed-widths}
use Rattle.config.proofs.Geometry.{l0_in, l1_in, granule_in, l1_most, words_2_most, words_least, words_32, words_512, regions, region_in}
use Rattle.resolve.specs.declared.Ask.{Ask}
use Rattle.resolve.specs.declared.Call.TheVariants.{Plain, Set}
use Rattle.resolve.specs.declared.Refusal.{Refusal}
use Rattle.resolve.specs.declared.Refusal.TheVariants.{OutsideArena}
use Rattle.resolve.specs.declared.Site.{Site}
use Rattle.resolve.specs.Refusals.{arena_bad, gpi_bad, outside}
use Rattle.resolve.specs.Place.{site_of, asks, table_of, configured, located, place_of}
use Rattle.resolve.specs.Sited.{Sited, Passed, Resolved}
use Rattle.resolve.specs.Inner.{word_of, onward}
use Rattle.resolve.proofs.Arena.{arena_fine, inside, not_outside}
use Rattle.resolve.proofs.Chain.{Asked, few_words, bad_arena, short_log, bad_address, bad_gpi, none-met}
use Rattle.resolve.proofs.Chain.{through, none, table_address}
use Rattle.l0.specs.declared.L0Entry.{L0Entry}
use Rattle.l0.specs.declared.L0Entry.TheVariants.{Block as L0Block, Table as L0Table}
use Rattle.resolve.specs.declared.Place.{Place}
use Rattle.resolve.specs.declared.Place.TheVariants.{Block, Table}

-- the words of 512 MB, as the theory of tables counts them
span-512 : (w : Widths) → Listed w → size_words w MB512 ≡ span (size_words w MB2) 2
unfolding span
span-512 w h = words_512 w h ∙ ap (λ (n : ℕ). 16 * n) (words_32 w h)

-- ---- a table inside an arena in order

module _ (q : Ask) (w : Widths) (a : ℕ) (h : Listed w)
    (fine : arena_bad q.base.0 q.words ≡ false) (inner : outside q.base.0 q.words a (l1_words w) ≡ false) where
  site-sited : Sited q.words (site_of q w a)
  unfolding site_of
  site-sited =
      let f = arena_fine _ _ fine in
      let i = inside _ _ _ _ inner in
      record {
        fits = omega arith;
        index = l1_in w h _;
        granule = granule_in w h _;
        most = l1_most w h;
        unit_least = words_least w h MB2 (lit< tt);
        unit_most = words_2_most w h;
        regions = (2 ^ (w.l0gptsz - 29), regions w h ∙ ap (λ (n : ℕ). 2 ^ (w.l0gptsz - 29) * n) (span-512 w h));
        region = rw (span-512 w h) at (region_in w h (l1_index w q.address.0) (l1_in w h _));
        arena = omega arith;
      }

  -- the table's address by the arena's index of its first word
  site-start : a % 4096 ≡ 0 → a ≡ q.base.0 + 8 * (site_of q w a).start
  unfolding site_of
  site-start e =
      let f = arena_fine _ _ fine in
      let i = inside _ _ _ _ inner in
      omega arith

-- ---- a call that isn't refused met no test

abbrev found : Result Place Refusal → Bool
found (Err r) = false
found (Ok (Block g)) = true
found (Ok (Table s)) = true

not_found : {A : Type 0} {r : Refusal} {p : Result Place Refusal} → Err r ≡ p → found p ≡ true → A
not_found h e = let z : false ≡ true = ap found h ∙ e in none (cc)

module _ (q : Ask) (l : List ℕ) (w : Widths) where
  met-none : (a b d f g : Bool) → Asked q l w a b d f g → found (place_of q l) ≡ true → Passed q l w
  met-none true b d f g k e = not_found (few_words k refl) e
  met-none false true d f g k e = not_found (bad_arena k refl refl) e
  met-none false false true f g k e = not_found (short_log k refl refl refl) e
  met-none false false false true g k e = not_found (bad_address k refl refl refl refl) e
  met-none false false false false true k e = not_found (bad_gpi k refl refl refl refl refl) e
  met-none false false false false false k e = none-met k refl refl refl refl refl

  passed : configured_of q.config ≡ Ok w → found (place_of q l) ≡ true → Passed q l w
  passed o = met-none _ _ _ _ _ record { taken = o; few = refl; arena = refl; log = refl; address = refl; gpi = refl }

  -- ---- a place in a table

  resolved-by : (s : Site) → configured_of q.config ≡ Ok w → place_of q l ≡ Ok (Table s) → Resolved q l w s
  resolved-by s o e = go (word_of q l w) refl (sym (through q l w o p) ∙ e)
    where
      h : Listed w
      h = listed-widths q.config w o

      p : Passed q l w
      p = passed o (ap found e)

      last : (a : PA) → word_of q l w ≡ Some (L0Table a) → (t : Bool) → outside q.base.0 q.words a.0 (l1_words w) ≡ t
          → cond t (Err OutsideArena) (Ok (Table (site_of q w a.0))) ≡ Ok (Table s) → Resolved q l w s
      last a f true g e = none (cc)
      last a f false g e =
          let k : site_of q w a.0 ≡ s = cc in
          let b : a.0 ≡ q.base.0 + 8 * (site_of q w a.0).start = site-start q w a.0 h p.arena g (table_address _ a f).0 in
          subst (Resolved q l w) k record {
            configured = o;
            passed = p;
            entry = f ∙ ap (λ (x : ℕ). Some (L0Table (pa x))) b;
            site = ap (site_of q w) b;
            aligned = (arena_fine _ _ p.arena).0;
            sited = site-sited q w a.0 h p.arena g;
          }

      go : (t : Option L0Entry) → word_of q l w ≡ t → onward q w t ≡ Ok (Table s) → Resolved q l w s
      go (Some (L0Block g)) f e = none (cc)
      go (Some (L0Table a)) f e = last a f (outside q.base.0 q.words a.0 (l1_words w)) refl e
      go None f e = none (cc)

pub resolved : (q : Ask) (l : List ℕ) (s : Site) → place_of q l ≡ Ok (Table s) → (w : Widths) × Resolved q l w s
unfolding place_of
resolved q l s e = go (configured_of q.config) refl e
  where
    go : (t : Result Widths ConfigError) → configured_of q.config ≡ t → configured t (located q l) ≡ Ok (Table s) → (w : Widths) × Resolved q l w s
    go (Ok w) f h = (w, resolved-by q l w s f e)
    go (Err InvalidConfiguration) f h = none (cc)
    go (Err GptNotInitialized) f h = none (cc)

-- ---- the table is of its words

pub table_length : (A : List ℕ) (s : Site) → Sited (length A) s → length (table_of s A) ≡ s.words
table_length A s h = let f = h.fits in length-take-le s.words (drop s.start A) (rw length-drop (omega arith))

-- and its words are the arena's
pub table_word : (A : List ℕ) (s : Site) (i : ℕ) → i < s.words → get_or (table_of s A) i 0 ≡ get_or A (s.start + i) 0
table_word A s i h = get_or-take s.words (drop s.start A) i 0 h ∙ get_or-drop s.start A i 0

-- ---- another address of the same L0 entry lies in the same table, whatever else the call that found it asked

pub neighbour : (q : Ask) (l : List ℕ) (w : Widths) (s : Site) (x : ℕ) → Resolved q l w s → x < 2 ^ w.pps
    → l0_index w x ≡ l0_index w q.address.0
    → let y = asks q.config q.words q.base.0 Plain x in place_of y l ≡ Ok (Table (site_of y w (q.base.0 + 8 * s.start)))
unfolding site_of
neighbour q l w s x r h e =
    let p = r.passed in
    let y = asks q.config q.words q.base.0 Plain x in
    let k : Passed y l w = record { listed = p.listed; enough = p.enough; arena = p.arena; long = refl; below = h; gpi = refl } in
    let n : s.words ≡ l1_words w = ap (λ (t : Site). t.words) r.site in
    let g = r.sited.fits in
    let o = not_outside q.base.0 q.words (q.base.0 + 8 * s.start) (l1_words w) (omega arith) (omega arith) in
    let f : word_of y l w ≡ Some (L0Table (pa (q.base.0 + 8 * s.start))) = rw e r.entry in
    rw (through y l w r.configured k, f, o)

-- ---- "surplus lent words are not read": whatever stands behind the entries

pub surplus : (q : Ask) (l m : List ℕ) (w : Widths) → configured_of q.config ≡ Ok w → l0_entries w ≤ length l
    → place_of q (l ++ m) ≡ place_of q l
unfolding located place_of
surplus q l m w e h =
    let i : l0_index w q.address.0 < length l = lt_of_lt_of_le (l0_in w (listed-widths q.config w e) q.address.0) h in
    let n : l0_entries w ≤ length (l ++ m) = rw length-append (omega arith) in
    let f = get_or-append l m 0 (l0_index w q.address.0) i in
    rw (e, le-ltb (length (l ++ m)) (l0_entries w) n, le-ltb (length l) (l0_entries w) h, f)

-- ---- the GPI of a set that was let through is known and supported

pub gpi-taken : (c : Config) (n : ℕ) (g : Option Gpi) → gpi_bad c (Set n g) ≡ false → (h : Gpi) × (g ≡ Some h) × (supported_of c h ≡ true)
gpi-taken c n (Some h) e = (h, refl, go (supported_of c h) e)
  where
    go : (b : Bool) → not b ≡ false → b ≡ true
    go true e = refl
    go false e = none (cc)
gpi-taken c n None e = none (cc)
