-- A set's answer and counts are small, whatever it is asked: at most 13 records, and each word of two ranges of 512 MB stored once, and the
-- granule. A mend stores at most the words of its table. So the packed number's parts don't run into one another.
use mathlib.Core.Path.{◌≡◌, refl}
use mathlib.Core.Bool.{Bool, true, false}
use mathlib.Core.List.{List, ◌∷◌, ◌++◌}
use Prim.Native.Nat.{ℕ, zero, suc, ◌≤◌, ◌<◌}
use native.Mathlib.Omega.{arith}
use lib.ListN.{length}
use Rattle.std.specs.Prelude.{Option, Some, None, Result, Ok, Err}
use Rattle.gpi.specs.declared.Gpi.{Gpi}
use Rattle.gpi.specs.Gpi.{num, gpi_at}
use Rattle.gpi.proofs.Rules.{num-lt}
use Rattle.theory.specs.Format.{Format, Laws, gpi}
use Rattle.theory.specs.Normal.{at, span, normal_word}
use Rattle.theory.specs.Events.{granule, count}
use Rattle.theory.specs.Set.{Target, barriers, breaks, broken, broken_barriers, new_word, fusing, fused, store_events, set_events}
use Rattle.theory.proofs.Mend.{mend_count-is, differing-few}
use Rattle.theory.proofs.Set.{at-most_13, count-append, count-fill, count-shatter, fusing-level}
use Rattle.theory.proofs.Arena.{length-table}
use Rattle.config.specs.Format.{format_of}
use Rattle.config.proofs.Format.{format_laws}
use Rattle.resolve.specs.declared.Place.{Place}
use Rattle.resolve.specs.declared.Place.TheVariants.{Block, Table}
use Rattle.resolve.specs.declared.Site.{Site}
use Rattle.resolve.specs.declared.Refusal.{Refusal}
use Rattle.resolve.specs.declared.Refusal.TheVariants.{InvalidRequest, InvalidL1Entry}
use Rattle.resolve.specs.declared.Call.TheVariants.{Set}
use Rattle.resolve.specs.Lent.{Lent, place_for, placed, table_in}
use Rattle.resolve.proofs.Numbers.{refusal_number_lem}
use Rattle.resolve.proofs.Found.{found}
use Rattle.stores.specs.declared.Tally.{Tally}
use Rattle.gpt.specs.Set.{changed_by, target_at, site_set, set_at, set_of}
use Rattle.mend.specs.Outcome.{named_by, mended_at, mend_of}
use Rattle.mend.proofs.Sites.{sited}
use Rattle.abi.specs.Inner.{Small, Few}

-- ---- how many stores

span-most : (u l : ℕ) → u ≤ 32 → l < 3 → span u l ≤ 8192
unfolding span
span-most u zero h b = omega arith
span-most u (suc zero) h b = omega arith
span-most u (suc (suc zero)) h b = omega arith
span-most u (suc (suc (suc l))) h b = omega arith

module _ (F : Format) (L : Laws F) (u : ℕ) (h : u ≤ 32) (t : List ℕ) (q : Target) where
  broken-few : count (broken F u t q.word ++ broken_barriers q.address (F.size (at t q.word))) ≤ 8192
  unfolding broken breaks broken_barriers count
  broken-few = go (F.size (at t q.word)) refl
    where
      go : (s : ℕ) → F.size (at t q.word) ≡ s
          → count (breaks F u (gpi F (at t q.word)) q.word s ++ broken_barriers q.address s) ≤ 8192
      go zero e = omega arith
      go (suc l) e =
          simp (count-append, count-shatter F u (gpi F (at t q.word)) q.word l)
          (omega (arith, span-most u l h (L.size_small (at t q.word) l e)))

  fused-few : count (fused F u q.gpi q.word (fusing F u t q)) ≤ 8192
  unfolding fused count
  fused-few = go (fusing F u t q) refl
    where
      go : (f : Result (Option ℕ) ℕ) → fusing F u t q ≡ f → count (fused F u q.gpi q.word f) ≤ 8192
      go (Ok None) e = omega arith
      go (Ok (Some l)) e = rw (count-fill _ (span u l) (F.contig l q.gpi)) (span-most u l h (fusing-level F u t q l e).0)
      go (Err k) e = omega arith

  store-few : count (granule q.word q.granule (new_word F t q) ∷ barriers q.address q.bytes) ≡ 1
  unfolding count
  store-few = refl

  stores-few : count (set_events F u t q) ≤ 16385
  unfolding set_events store_events
  stores-few =
      rw (
        count-append _ (fused F u q.gpi q.word (fusing F u t q)),
        count-append _ (granule q.word q.granule (new_word F t q) ∷ barriers q.address q.bytes),
      )
      (omega (arith, broken-few, fused-few, store-few))

-- ---- a set's

none : (r : Refusal) → Small (Err r)
none r = record { number = omega (arith, (refusal_number_lem r).1); records = omega arith; stores = omega arith }

by : (f : Result (Option ℕ) ℕ) (t : Tally) → t.records ≤ 13 → t.stores ≤ 16385 → Small (changed_by f t)
by (Ok m) t p q = record { number = omega arith; records = p; stores = q }
by (Err k) t p q = record { number = omega arith; records = p; stores = q }

at-site : (q : Lent) (L : List ℕ) (s : Site) → s.unit ≤ 32 → (x g : ℕ) → Small (site_set q L s x g).answer
unfolding site_set
at-site q L s u x g = go ((format_of q.config).valid (at (table_in q s) s.index)) refl
  where
    go : (v : Bool) → (format_of q.config).valid (at (table_in q s) s.index) ≡ v → Small (site_set q L s x g).answer
    go true v =
        rw v
        (by (fusing (format_of q.config) s.unit (table_in q s) (target_at s x g)) _
        (at-most_13 (format_of q.config) (format_laws q.config) s.unit (table_in q s) (target_at s x g))
        (stores-few (format_of q.config) (format_laws q.config) s.unit u (table_in q s) (target_at s x g)))
    go false v = rw v (none InvalidL1Entry)

pub set-small : (q : Lent) (L : List ℕ) (x g : ℕ) → Small (set_of q L x g).answer
unfolding set_of set_at
set-small q L x g = go (gpi_at g) (place_for q (Set (length L) (gpi_at g)) x) refl
  where
    go : (n : Option Gpi) (p : Result Place Refusal) → place_for q (Set (length L) (gpi_at g)) x ≡ p → Small (set_at q L x n p).answer
    go n (Err r) e = none r
    go n (Ok (Block h)) e = none InvalidRequest
    go None (Ok (Table s)) e = none InvalidRequest
    go (Some h) (Ok (Table s)) e = at-site q L s (found q _ x s e).1.sited.unit_most x (num h)

-- ---- a mend's

pub mend-small : (q : Lent) (x k : ℕ) → Few (mend_of q x k).answer
unfolding mend_of mended_at
mend-small q x k = go (named_by (placed q x)) refl
  where
    go : (p : Result Site Refusal) → named_by (placed q x) ≡ p → Few (mended_at q k p).answer
    go (Err r) e = omega arith
    go (Ok s) e =
        let h = sited q x s e in
        omega (
          arith,
          h.most,
          length-table s.start s.words q.arena h.fits,
          mend_count-is (format_of q.config) s.unit k (table_in q s),
          differing-few (at (table_in q s)) (normal_word (format_of q.config) s.unit (at (table_in q s))) 0 (length (table_in q s)),
        )

-- ---- what the packings ask, for the functions' attributes

pub ruleset gpis = (num-lt)

pub ruleset few = (mend-small)
