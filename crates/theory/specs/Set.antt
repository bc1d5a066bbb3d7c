-- Document 01, "Set, step by step": what a set of one granule of an L1 table does, as events computed from the table; agreement; and the
-- new granules, said by themselves. Of the crate `theory`.
use Rattle.std.specs.Prelude.{◌≡◌, Bool, true, false, cond, Option, None, Some, Result, Ok, Err, List, [], ◌∷◌, ◌++◌, map, ℕ, zero, suc, ◌+◌, ◌-◌, ◌<◌, length, set}
use Rattle.theory.specs.Format.{Format, gpi, reads}
use Rattle.theory.specs.Normal.{at, span, base, In}
use Rattle.theory.specs.Stores.{Store, apply}
use Rattle.theory.specs.Events.{Event, filled, granule, barrier, dsb_oshst, tlbi, dsb_osh, stores}

-- what a set is asked: which granule of which word is made which GPI; and what its barriers tell, the address as given and the granule's
-- bytes
pub record Target : Type 0 where
  pub word : ℕ
  pub granule : ℕ
  pub gpi : ℕ
  pub address : ℕ
  pub bytes : ℕ

-- a fill; "empty ones unlogged"
unfoldable pub fill_event : ℕ → ℕ → ℕ → List Event
fill_event a zero w = []
fill_event a (suc n) w = filled a (suc n) w ∷ []

-- "2, 3 with bytes b, 4"; x is the address as given
abbrev pub barriers : ℕ → ℕ → List Event
barriers x b = barrier dsb_oshst 0 0 ∷ barrier tlbi x b ∷ barrier dsb_osh 0 0 ∷ []

-- bytes of a level: 2, 32, 512 MB
abbrev pub bytes : ℕ → ℕ
bytes l = span 2097152 l

-- ---- shattering

-- "the aligned range S is refilled at the next smaller size: the part before, then the part holding the address by the same rule one size
-- down, then the part after; 2 MB becomes words of sixteen g"
unfoldable pub shatter : Format → ℕ → ℕ → ℕ → ℕ → List Event
shatter F u g i zero = fill_event (base u i) u (F.rep g)
shatter F u g i (suc l) =
    let n : ℕ = span u l in
    let m : ℕ = span u (suc l) in
    fill_event (base m i) (base n i - base m i) (F.contig l g)
    ++ shatter F u g i l
    ++ fill_event (base n i + n) (base m i + m - (base n i + n)) (F.contig l g)

-- by the size code of the entry: nothing where it isn't contiguous
unfoldable pub breaks : Format → ℕ → ℕ → ℕ → ℕ → List Event
breaks F u g i zero = []
breaks F u g i (suc l) = shatter F u g i l

-- the fills that break up the entry at i
unfoldable pub broken : Format → ℕ → List ℕ → ℕ → List Event
broken F u t i = breaks F u (gpi F (at t i)) i (F.size (at t i))

-- the barriers after them, "3 with bytes S"
unfoldable pub broken_barriers : ℕ → ℕ → List Event
broken_barriers x zero = []
broken_barriers x (suc l) = barriers x (bytes l)

-- ---- the granule store

-- the new word: after the shatter the word at i is the flat word of what stood there (`broken-at`)
unfoldable pub new_word : Format → List ℕ → Target → ℕ
new_word F t q = F.put (F.flat (at t q.word)) q.granule q.gpi

-- how many stores a set of word i makes before its granule store, which are those of the shatter: a cut after k stores is before the
-- granule store if k ≤ lead, and after it if lead < k
unfoldable pub lead : Format → ℕ → List ℕ → ℕ → ℕ
lead F u t i = length (stores (broken F u t i))

-- the table before the fuse
unfoldable pub changed : Format → ℕ → List ℕ → Target → List ℕ
changed F u t q = set (apply t (stores (broken F u t q.word))) q.word (new_word F t q)

-- ---- fusing

-- "A scan stops at the first word that isn't all the new GPI (no match) or is invalid": n words from a. Of an invalid word it tells the
-- index
unfoldable pub scan : Format → (ℕ → ℕ) → ℕ → ℕ → ℕ → Result Bool ℕ
scan F r g a zero = Ok true
scan F r g a (suc n) = cond (F.valid (r a)) (cond (reads F (r a) g) (scan F r g (suc a) n) (Ok false)) (Err a)

-- how a scan takes what the scans come to further: no range, the largest that matched, or refusal 10 by the invalid word at an index
abbrev pub on_scan : Result Bool ℕ → Result (Option ℕ) ℕ → Result (Option ℕ) ℕ → Result (Option ℕ) ℕ
on_scan (Ok true) more best = more
on_scan (Ok false) more best = best
on_scan (Err k) more best = Err k

-- "scan the aligned 2 MB, then 32 MB, then 512 MB, each from its lowest word, each only if the one below matched": n levels from l, where
-- `best` is the one below
unfoldable pub climb : Format → ℕ → (ℕ → ℕ) → ℕ → ℕ → ℕ → Result (Option ℕ) ℕ → ℕ → Result (Option ℕ) ℕ
climb F u r g i l best zero = best
climb F u r g i l best (suc n) =
    let more : Result (Option ℕ) ℕ = climb F u r g i (suc l) (Ok (Some l)) n in
    on_scan (scan F r g (base (span u l) i) (span u l)) more best

unfoldable pub fusing : Format → ℕ → List ℕ → Target → Result (Option ℕ) ℕ
fusing F u t q = climb F u (at (changed F u t q)) q.gpi q.word 0 (Ok None) 3

-- "the largest matched range is filled upward with its contiguous word"; under refusal 10 nothing is fused
unfoldable pub fused : Format → ℕ → ℕ → ℕ → Result (Option ℕ) ℕ → List Event
fused F u g i (Ok None) = []
fused F u g i (Ok (Some l)) = fill_event (base (span u l) i) (span u l) (F.contig l g)
fused F u g i (Err k) = []

-- ---- the set

-- "Shatter fills (empty ones unlogged), 2, 3 with bytes S, 4; then 5, 2, 3 with the granule size, 4". Under refusal 10 that is all
unfoldable pub store_events : Format → ℕ → List ℕ → Target → List Event
store_events F u t q =
    broken F u t q.word
    ++ broken_barriers q.address (F.size (at t q.word))
    ++ (granule q.word q.granule (new_word F t q) ∷ barriers q.address q.bytes)

-- "then the fuse fill"
unfoldable pub set_events : Format → ℕ → List ℕ → Target → List Event
set_events F u t q = store_events F u t q ++ fused F u q.gpi q.word (fusing F u t q)

abbrev pub set_stores : Format → ℕ → List ℕ → Target → List Store
set_stores F u t q = stores (set_events F u t q)

-- ---- agreement

-- "A contiguous entry agrees if every word in its aligned range is valid and reads its GPI in all sixteen granules": the entry at i
pub record Agrees (F : Format) (u : ℕ) (t : List ℕ) (i : ℕ) : Type 0 where
  pub agrees : (l : ℕ) → F.size (at t i) ≡ suc l → (k : ℕ) → In (span u l) i k
      → reads F (at t k) (gpi F (at t i)) ≡ true

-- ---- a set that isn't refused

-- it is of a granule of a valid word of the table, and to a GPI
pub record Aimed (F : Format) (t : List ℕ) (q : Target) : Type 0 where
  pub is_word : q.word < length t
  pub is_granule : q.granule < 16
  pub is_gpi : F.known q.gpi ≡ true
  pub is_valid : F.valid (at t q.word) ≡ true

-- ---- the new granules

-- the old granules with the target made its GPI
unfoldable pub changed_flat : Format → List ℕ → Target → List ℕ
changed_flat F t q = set (map F.flat t) q.word (F.put (F.flat (at t q.word)) q.granule q.gpi)
