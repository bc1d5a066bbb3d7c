-- What a set that answers 0 or 10 did: its address lies in a table, its GPI is known and supported, the entry is valid, and its events
-- happened.
use mathlib.Core.Path.{◌≡◌, refl, sym, ap, ◌∙◌, subst}
use mathlib.Core.Bool.{Bool, true, false}
use mathlib.Core.List.{List}
use Prim.Native.Nat.{ℕ, ◌≤◌}
use native.Mathlib.Omega.{arith}
use borrow.Author.Tests.{ltb-false}
use lib.ListN.{length}
use Rattle.std.specs.Prelude.{Err, None, Ok, Option, Result, Some}
use Rattle.gpi.specs.declared.Gpi.{Gpi}
use Rattle.gpi.specs.Gpi.{num, gpi_at, is_known}
use Rattle.gpi.proofs.Rules.{num-at}
use Rattle.theory.specs.Normal.{at}
use Rattle.theory.specs.Stores.{apply}
use Rattle.theory.specs.Events.{stores, count, logged}
use Rattle.theory.specs.Set.{fusing, Aimed}
use Rattle.config.specs.declared.Widths.{Widths}
use Rattle.config.specs.Fields.{supported_of}
use Rattle.config.specs.Format.{format_of}
use Rattle.resolve.specs.declared.Call.TheVariants.{Set}
use Rattle.resolve.specs.declared.Refusal.{Refusal}
use Rattle.resolve.specs.declared.Refusal.TheVariants.{InvalidRequest, InvalidL1Entry}
use Rattle.resolve.specs.declared.Site.{Site}
use Rattle.resolve.specs.declared.Place.{Place}
use Rattle.resolve.specs.declared.Place.TheVariants.{Block, Table}
use Rattle.resolve.specs.Refusals.{refusal_number}
use Rattle.resolve.specs.Lent.{Lent, ask_of, place_for, table_in, lay_in}
use Rattle.resolve.proofs.Numbers.{refusal_number_lem}
use Rattle.resolve.proofs.Promises.{resolved, gpi-taken}
use Rattle.resolve.proofs.Found.{Found, found, table_length}
use Rattle.stores.specs.declared.Tally.{Tally}
use Rattle.stores.specs.Done.{tally_of}
use Rattle.gpt.specs.Set.{Outcome, changed_number, changed_records, changed_stores, changed_by}
use Rattle.gpt.specs.Set.{target_at, site_events, site_set, set_at, set_of}
use Rattle.cut_and_mend.specs.Demand3.{Answers0or10, answers-0, answers-10}

-- the set's outcome o at the site s: the events that happened there
pub record At (q : Lent) (log : List ℕ) (x g : ℕ) (s : Site) (o : Outcome) : Type 0 where
  pub valid : (format_of q.config).valid (at (table_in q s) s.index) ≡ true
  pub left : o.left ≡ lay_in q s (apply (table_in q s) (stores (site_events q s x g)))
  pub log_is : o.log ≡ logged s.start 0 (site_events q s x g) log
  pub records : changed_records o.answer ≡ length (site_events q s x g)
  pub stores-made : changed_stores o.answer ≡ count (site_events q s x g)

-- of the set of x to the GPI of number g: w are the widths, s is the site
pub record Happened (q : Lent) (log : List ℕ) (x g : ℕ) (w : Widths) (s : Site) (o : Outcome) : Type 0 where
  pub found : Found q x w s
  pub gpi : Gpi
  pub known : gpi_at g ≡ Some gpi
  pub supported : supported_of q.config gpi ≡ true
  pub long : 52 ≤ length log
  pub aimed : Aimed (format_of q.config) (table_in q s) (target_at s x g)
  pub made : At q log x g s o

-- 1 to 9 are neither 0 nor 10
no_refusal : (r : Refusal) → Answers0or10 (refusal_number r) → ⊥
no_refusal r (answers-0 e) = omega (arith, (refusal_number_lem r).0)
no_refusal r (answers-10 e) = omega (arith, (refusal_number_lem r).1)

-- the counts don't depend on what the scans came to
counts : (f : Result (Option ℕ) ℕ) (t : Tally) → (changed_records (changed_by f t) ≡ t.records) × (changed_stores (changed_by f t) ≡ t.stores)
counts (Ok None) t = (refl, refl)
counts (Ok (Some l)) t = (refl, refl)
counts (Err k) t = (refl, refl)

module _ (q : Lent) (log : List ℕ) (x : ℕ) where
  at-site : (s : Site) (g : ℕ) → Answers0or10 (changed_number (site_set q log s x g).answer) → At q log x g s (site_set q log s x g)
  unfolding site_set
  at-site s g a = go ((format_of q.config).valid (at (table_in q s) s.index)) refl a
    where
      go : (v : Bool) → (format_of q.config).valid (at (table_in q s) s.index) ≡ v
          → Answers0or10 (changed_number (site_set q log s x g).answer) → At q log x g s (site_set q log s x g)
      go true v a =
          let k = counts (fusing (format_of q.config) s.unit (table_in q s) (target_at s x g)) (tally_of (site_events q s x g)) in
          record { valid = v; left = rw v refl; log_is = rw v refl; records = rw v k.0; stores-made = rw v k.1 }
      go false v a = absurd (no_refusal InvalidL1Entry (rw v at a))

  -- what is known of it besides
  with-place : (g : ℕ) (G : Gpi) (s : Site) (o : Outcome) → gpi_at g ≡ Some G → place_for q (Set (length log) (gpi_at g)) x ≡ Ok (Table s)
      → At q log x g s o → (w : Widths) × Happened q log x g w s o
  with-place g G s o known place made =
      let r = (resolved (ask_of q (Set (length log) (gpi_at g)) x) q.l0 s place).1 in
      let f = found q (Set (length log) (gpi_at g)) x s place in
      let t = gpi-taken q.config (length log) (gpi_at g) r.passed.gpi in
      let e : Some t.0 ≡ Some G = sym t.1 ∙ known in
      let e : t.0 ≡ G = cc in (
        f.0,
        record {
          found = f.1;
          gpi = G;
          known = known;
          supported = rw e at t.2;
          long = ltb-false (length log) 52 r.passed.long;
          aimed =
              record {
                is_word = omega (arith, table_length f.1, f.1.sited.index);
                is_granule = f.1.sited.granule;
                is_gpi = ap is_known known;
                is_valid = made.valid;
              };
          made = made;
        },
      )

  pub happened : (g : ℕ) → Answers0or10 (changed_number (set_of q log x g).answer)
      → (w : Widths) × (s : Site) × Happened q log x g w s (set_of q log x g)
  unfolding set_of set_at
  happened g a = go (gpi_at g) refl (place_for q (Set (length log) (gpi_at g)) x) refl a
    where
      go : (n : Option Gpi) → gpi_at g ≡ n → (p : Result Place Refusal) → place_for q (Set (length log) (gpi_at g)) x ≡ p
          → Answers0or10 (changed_number (set_at q log x n p).answer)
          → (w : Widths) × (s : Site) × Happened q log x g w s (set_at q log x (gpi_at g) (place_for q (Set (length log) (gpi_at g)) x))
      go n e (Err r) f a = absurd (no_refusal r a)
      go n e (Ok (Block h)) f a = absurd (no_refusal InvalidRequest a)
      go (Some h) e (Ok (Table s)) f a =
          let m : num h ≡ g = sym (num-at g h e) in
          let k = with-place g h s (site_set q log s x (num h)) e f
          (subst (λ (n : ℕ). At q log x n s (site_set q log s x (num h))) m (at-site s (num h) a)) in
          (k.0, s, rw (f, e) k.1)
      go None e (Ok (Table s)) f a = absurd (no_refusal InvalidRequest a)
