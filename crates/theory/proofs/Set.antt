-- The parts of a set: its stores in three lots, what its scans find, where its stores lie, how many records and stores it makes. Of the
-- crate `theory`.
use mathlib.Core.Path.{◌≡◌, refl, sym, ◌∙◌}
use mathlib.Core.Bool.{Bool, true, false, ◌&&◌, cond}
use mathlib.Core.List.{List, [], ◌∷◌, ◌++◌, append_assoc, append-nil}
use Prim.Native.Nat.{ℕ, zero, suc, ◌+◌, ◌-◌, ◌*◌, ◌≤◌, ◌<◌}
use native.Mathlib.Nat.{add-zero, zero-add, add_assoc}
use native.Mathlib.Omega.{arith}
use lib.ListN.{length, length-append}
use Rattle.std.specs.Prelude.{Err, None, Ok, Option, Result, Some}
use Rattle.theory.specs.Format.{Format, Laws, gpi, reads}
use Rattle.theory.specs.Normal.{at, span, base, In, every, alike}
use Rattle.theory.specs.Stores.{Store, apply, Each, Inside}
use Rattle.theory.specs.Events.{Event, granule, stores, count_of, count}
use Rattle.theory.specs.Set.{Target, fill_event, barriers, shatter, breaks, broken, broken_barriers, new_word, changed}
use Rattle.theory.specs.Set.{scan, on_scan, climb, fusing, fused, store_events, set_events, set_stores}
use Rattle.theory.proofs.Stores.{each_append, each_fill, each_of, apply-append}
use Rattle.theory.proofs.Events.{stores-append, length-stores}
use Rattle.theory.proofs.Ranges.{range_in, in_of, in_table, base-lo, base-hi}
use Rattle.theory.proofs.Shatter.{stores-fill, Shatters, shatter-each, shatter-at}

-- ---- the stores, in three lots: before the granule store, it, after it

pub stores-barriers : (x s : ℕ) → stores (broken_barriers x s) ≡ []
unfolding broken_barriers stores
stores-barriers x zero = refl
stores-barriers x (suc l) = refl

abbrev pub granule_store : Format → List ℕ → Target → Store
granule_store F t q = record { index = q.word; word = new_word F t q }

module _ (F : Format) (u : ℕ) (t : List ℕ) (q : Target) where
  -- the fuse's events
  abbrev pub last : List Event
  last = fused F u q.gpi q.word (fusing F u t q)

  stores-lead : stores (store_events F u t q) ≡ stores (broken F u t q.word) ++ granule_store F t q ∷ []
  unfolding store_events stores
  stores-lead = rw (stores-append, stores-append, stores-barriers, append-nil (stores (broken F u t q.word))) refl

  pub stores-set : set_stores F u t q ≡ stores (broken F u t q.word) ++ granule_store F t q ∷ stores last
  unfolding set_events
  stores-set = rw (stores-append, stores-lead) (append_assoc (stores (broken F u t q.word)) (granule_store F t q ∷ []) (stores last))

  -- the table that the scans look at is the table with the events up to the fuse made
  pub changed-is : apply t (stores (store_events F u t q)) ≡ changed F u t q
  unfolding changed apply
  changed-is = rw stores-lead (apply-append t (stores (broken F u t q.word)) (granule_store F t q ∷ []))

  -- "Refusal 10 leaves the shattered words and the new granule stored, nothing fused."
  pub set-refused : (k : ℕ) → fusing F u t q ≡ Err k → set_events F u t q ≡ store_events F u t q
  unfolding set_events fused
  set-refused k e = rw e (append-nil (store_events F u t q))

  -- "The store count is all fill counts plus one."
  pub set-count : length (set_stores F u t q) ≡ count (broken F u t q.word) + 1 + count last
  set-count = rw stores-set (simp length-append (omega (arith, length-stores (broken F u t q.word), length-stores last)))

-- ---- before it: a shatter, or none

-- where the entry is contiguous, a P of every store of its shatter is one of every store before the granule store
pub each_broken : (F : Format) (u : ℕ) (t : List ℕ) (i : ℕ) (P : Store → Type 0)
    → ((l : ℕ) → F.size (at t i) ≡ suc l → Each P (stores (shatter F u (gpi F (at t i)) i l))) → Each P (stores (broken F u t i))
unfolding broken breaks stores
each_broken F u t i P h = go (F.size (at t i)) refl
  where
    go : (s : ℕ) → F.size (at t i) ≡ s → Each P (stores (breaks F u (gpi F (at t i)) i s))
    go zero e = tt
    go (suc l) e = h l e

-- after the shatter the word at the address is the flat word of what stood there: a granule word
pub broken-at : (F : Format) → Laws F → (u : ℕ) → 0 < u → (t : List ℕ) (i : ℕ) → i < length t
    → at (apply t (stores (broken F u t i))) i ≡ F.flat (at t i)
unfolding broken breaks apply stores
broken-at F L u u-pos t i b = go (F.size (at t i)) refl
  where
    go : (s : ℕ) → F.size (at t i) ≡ s → at (apply t (stores (breaks F u (gpi F (at t i)) i s))) i ≡ F.flat (at t i)
    go zero e = sym (L.size_flat (at t i) e)
    go (suc l) e = shatter-at F u (gpi F (at t i)) i u-pos t l b ∙ sym (L.size_rep (at t i) l e)

-- ---- after it: what the scans find

scan_step : (v x : Bool) (s : Result Bool ℕ) (k : ℕ) (y : Bool) → cond v (cond x s (Ok false)) (Err k) ≡ Ok true → (s ≡ Ok true → y ≡ true)
    → (x && y) ≡ true
scan_step true true s k y e h = h e
scan_step true false s k y e h = cc
scan_step false x s k y e h = cc

scan-every : (F : Format) (r : ℕ → ℕ) (g a n : ℕ) → scan F r g a n ≡ Ok true → every (λ j. reads F (r j) g) a n ≡ true
unfolding scan every
scan-every F r g a zero e = refl
scan-every F r g a (suc n) e =
    scan_step (F.valid (r a)) (reads F (r a) g) (scan F r g (suc a) n) a (every (λ j. reads F (r j) g) (suc a) n) e
    (scan-every F r g (suc a) n)

module _ (F : Format) (u : ℕ) (r : ℕ → ℕ) (g i : ℕ) where
  abbrev Matched : ℕ → Type 0
  Matched k = (k < 3) × (alike F r (span u k) i g ≡ true)

  -- a climb that ends at a level has matched there
  climb-level : (l : ℕ) (best : Result (Option ℕ) ℕ) (n : ℕ) → l + n ≤ 3 → (k : ℕ) → (best ≡ Ok (Some k) → Matched k) → climb F u r g i l best n ≡ Ok (Some k)
      → Matched k
  unfolding climb alike
  climb-level l best zero b k h e = h e
  climb-level l best (suc n) b k h e =
      go (scan F r g (base (span u l) i) (span u l)) refl e (climb-level (suc l) (Ok (Some l)) n (omega arith) k)
    where
      go : (s : Result Bool ℕ) → scan F r g (base (span u l) i) (span u l) ≡ s → on_scan s (climb F u r g i (suc l) (Ok (Some l)) n) best ≡ Ok (Some k)
          → ((◌≡◌ {A = Result (Option ℕ) ℕ} (Ok (Some l)) (Ok (Some k)) → Matched k) → climb F u r g i (suc l) (Ok (Some l)) n ≡ Ok (Some k) → Matched k) → Matched k
      go (Ok true) p q ih = ih (λ w. let q' : l ≡ k = cc in rw (← q') (omega arith, scan-every F r g (base (span u l) i) (span u l) p)) q
      go (Ok false) p q ih = h q
      go (Err a) p q ih = let z : ◌≡◌ {A = ℕ} 0 1 = cc in absurd (omega arith)

  pub climbed : (k : ℕ) → climb F u r g i 0 (Ok None) 3 ≡ Ok (Some k) → (k < 3) × (alike F r (span u k) i g ≡ true)
  climbed k = climb-level 0 (Ok None) 3 (omega arith) k (λ w. let z : ◌≡◌ {A = ℕ} 0 1 = cc in absurd (omega arith))

module _ (F : Format) (u : ℕ) (t : List ℕ) (q : Target) where
  -- a range that is fused was all of the new GPI before
  pub fusing-level : (l : ℕ) → fusing F u t q ≡ Ok (Some l) → (l < 3) × (alike F (at (changed F u t q)) (span u l) q.word q.gpi ≡ true)
  unfolding fusing
  fusing-level l e = climbed F u (at (changed F u t q)) q.gpi q.word l e

  -- a P of every store of such a fuse is one of every store after the granule store
  pub each_fused : (P : Store → Type 0)
      → ((l : ℕ) → fusing F u t q ≡ Ok (Some l)
      → (k : ℕ) → In (span u l) q.word k → P (record { index = k; word = F.contig l q.gpi }))
      → Each P (stores (last F u t q))
  unfolding fused stores
  each_fused P h = go (fusing F u t q) refl
    where
      go : (f : Result (Option ℕ) ℕ) → fusing F u t q ≡ f → Each P (stores (fused F u q.gpi q.word f))
      go (Ok None) e = tt
      go (Ok (Some l)) e =
          rw (stores-fill (base (span u l) q.word) (span u l) (F.contig l q.gpi))
          (each_fill P (base (span u l) q.word) (span u l) (F.contig l q.gpi)
          (λ k lo hi. h l e k (in_of (span u l) q.word k lo hi)))
      go (Err k) e = tt

  -- ---- in a table of m ranges of 512 MB every store of a set lies within the table

  pub inside_set : Laws F → 0 < u → (m : ℕ) → length t ≡ m * span u 2 → q.word < length t → Inside (length t) (set_stores F u t q)
  inside_set L u-pos m regions i< =
      rw (stores-set F u t q)
      (each_append _ (stores (broken F u t q.word)) _
      (each_broken F u t q.word _ (λ l e.
      let s : l < 3 = L.size_small (at t q.word) l e in
      let g : ℕ = gpi F (at t q.word) in
      let known : F.known g ≡ true = L.known_low (at t q.word) (L.size_valid (at t q.word) l e) in
      each_of (Shatters F u g q.word l) (λ v. v.index < length t)
      (λ v h. omega (arith, h.1, range_in u u-pos t m regions q.word i< l s))
      (stores (shatter F u g q.word l)) (shatter-each F u g q.word L known l s)))
      (i<, each_fused (λ v. v.index < length t) (λ l e k h. in_table u u-pos t m regions q.word i< l k (fusing-level l e).0 h)))

-- ---- records

pub few : (a n w : ℕ) → length (fill_event a n w) ≤ 1
unfolding fill_event
few a zero w = omega arith
few a (suc n) w = omega arith

pub few_shatter : (F : Format) (u g i l : ℕ) → length (shatter F u g i l) ≤ 1 + 2 * l
unfolding shatter
few_shatter F u g i zero = omega (arith, few (base u i) u (F.rep g))
few_shatter F u g i (suc l) =
    simp length-append
    (omega (
      arith,
      few_shatter F u g i l,
      few (base (span u (suc l)) i) (base (span u l) i - base (span u (suc l)) i) (F.contig l g),
      few (base (span u l) i + span u l) (base (span u (suc l)) i + span u (suc l) - (base (span u l) i + span u l)) (F.contig l g),
    ))

few_broken : (F : Format) → Laws F → (u : ℕ) (t : List ℕ) (i x : ℕ) → length (broken F u t i ++ broken_barriers x (F.size (at t i))) ≤ 8
unfolding broken breaks broken_barriers
few_broken F L u t i x = go (F.size (at t i)) refl
  where
    go : (s : ℕ) → F.size (at t i) ≡ s → length (breaks F u (gpi F (at t i)) i s ++ broken_barriers x s) ≤ 8
    go zero e = omega arith
    go (suc l) e = simp length-append (omega (arith, few_shatter F u (gpi F (at t i)) i l, L.size_small (at t i) l e))

pub few_fused : (F : Format) (u g i : ℕ) (f : Result (Option ℕ) ℕ) → length (fused F u g i f) ≤ 1
unfolding fused
few_fused F u g i (Ok None) = omega arith
few_fused F u g i (Ok (Some l)) = few (base (span u l) i) (span u l) (F.contig l g)
few_fused F u g i (Err k) = omega arith

-- "At most 13 records."
pub at-most_13 : (F : Format) → Laws F → (u : ℕ) (t : List ℕ) (q : Target) → length (set_events F u t q) ≤ 13
unfolding set_events store_events
at-most_13 F L u t q =
    rw (length-append _ (last F u t q), length-append _ (granule q.word q.granule (new_word F t q) ∷ barriers q.address q.bytes))
    (omega (arith, few_broken F L u t q.word q.address, few_fused F u q.gpi q.word (fusing F u t q)))

-- ---- how many stores

pub count-fill : (a n w : ℕ) → count (fill_event a n w) ≡ n
unfolding fill_event count
count-fill a zero w = refl
count-fill a (suc n) w = add-zero (suc n)

pub count-append : (a b : List Event) → count (a ++ b) ≡ count a + count b
unfolding count
count-append [] b = sym (zero-add (count b))
count-append (e ∷ es) b = rw (count-append es b) (sym (add_assoc (count_of e) (count es) (count b)))

-- a shatter stores each word of its range once
pub count-shatter : (F : Format) (u g i l : ℕ) → count (shatter F u g i l) ≡ span u l
unfolding shatter span
count-shatter F u g i zero = count-fill (base u i) u (F.rep g)
count-shatter F u g i (suc l) =
    simp (count-append, count-fill, count-shatter F u g i l) (omega (arith, base-lo (span u l) i, base-hi (span u l) i))
