-- A set that answered 0 or 10 and was cut after k of its stores: what the arena is then, what it looks up, what mends make of it.
use mathlib.Core.Path.{◌≡◌, refl, sym, ap, ap₂, ◌∙◌, subst}
use mathlib.Core.Logic.{◌≢◌}
use mathlib.Core.Bool.{Bool, true, false}
use mathlib.Core.List.{List, [], ◌∷◌, ◌++◌, map}
use mathlib.Core.Option.{some}
use Prim.Native.Nat.{ℕ, ◌-◌, ◌+◌, ◌*◌, ◌/◌, ◌≤◌, ◌<◌, ◌^◌}
use native.Mathlib.Nat.{div-lt_iff_lt-mul}
use native.Mathlib.Omega.{arith}
use borrow.Author.Tests.{leb-true, leb-false}
use lib.Dec.{leb}
use lib.ListN.{length, length-append}
use lib.Pow.{pow-add, pow_pos}
use lib.Seq.{take_all}
use Rattle.std.specs.Prelude.{Ok}
use Rattle.gpi.proofs.Rules.{num-at, gpi-num}
use Rattle.theory.specs.Format.{Format, Laws}
use Rattle.theory.specs.Normal.{at}
use Rattle.theory.specs.Stores.{Store, apply, cut}
use Rattle.theory.specs.Events.{read_log}
use Rattle.theory.specs.Set.{Agrees, lead, set_stores, changed_flat}
use Rattle.theory.proofs.Lists.{map_at, map-length}
use Rattle.theory.proofs.Stores.{length_cut}
use Rattle.theory.proofs.Events.{length-stores}
use Rattle.theory.proofs.Normal.{same_normal, length-normal}
use Rattle.theory.proofs.Set.{stores-set}
use Rattle.theory.proofs.Log.{arena_cut}
use Rattle.theory.proofs.Cut.{flat-before, flat_after, cut-outside, cut-target_new}
use Rattle.l1.specs.L1.{flat}
use Rattle.l1.proofs.Alike.{flat-idem, same_reading}
use Rattle.l1.proofs.Arm.{reading_of, read_is}
use Rattle.config.specs.declared.Widths.{Widths}
use Rattle.config.specs.Widths.{Listed}
use Rattle.config.specs.Index.{l1_words, l1_index, granule_index, granule_bytes}
use Rattle.config.specs.Format.{format_of}
use Rattle.config.proofs.Format.{format_laws}
use Rattle.config.proofs.Geometry.{granule_in}
use Rattle.resolve.specs.declared.Site.{Site}
use Rattle.resolve.specs.Lent.{Lent, over, table_in, lay_in, Names}
use Rattle.resolve.proofs.Granules.{same_granule, same_indices}
use Rattle.resolve.proofs.Found.{Found, table_length}
use Rattle.gpt.specs.Lookup.{lookup_of}
use Rattle.gpt.specs.Set.{Outcome, changed_stores, target_at, site_events}
use Rattle.mend.specs.Outcome.{check_of}
use Rattle.mend.specs.Mends.{Mend, AllName, Mending}
use Rattle.mend.proofs.Calls.{mends-finish, normal-checked, yes_table}
use Rattle.cut_and_mend.specs.Demand3.{Ready, cut_after, stores_before, granule_store_after, granules_after, normal_after}
use Rattle.cut_and_mend.proofs.Lead.{log-lead}
use Rattle.cut_and_mend.proofs.Happened.{Happened}
use Rattle.cut_and_mend.proofs.Looks.{table_of, looks_new, looks_same}

-- an address of the granule of x is below 2^PPS as x is
below_same : (w : Widths) → Listed w → (x y : ℕ) → y / granule_bytes w ≡ x / granule_bytes w → x < 2 ^ w.pps → y < 2 ^ w.pps
below_same w h x y e b =
    let p : w.pps ≡ w.pps - w.pgs + w.pgs = omega arith in
    let q : 2 ^ w.pps ≡ 2 ^ (w.pps - w.pgs) * 2 ^ w.pgs = ap (λ (n : ℕ). 2 ^ n) p ∙ pow-add 2 (w.pps - w.pgs) w.pgs in
    let d : x / granule_bytes w < 2 ^ (w.pps - w.pgs) = (div-lt_iff_lt-mul (pow_pos w.pgs)).1 (rw q at b) in
    rw q ((div-lt_iff_lt-mul (pow_pos w.pgs)).0 (rw e d))

flat-twice : (t : List ℕ) → map flat (map flat t) ≡ map flat t
flat-twice [] = refl
flat-twice (v ∷ t) = ap₂ (λ (a : ℕ) (l : List ℕ). a ∷ l) (flat-idem v) (flat-twice t)

module _ {q : Lent} {log : List ℕ} {x g : ℕ} {w : Widths} {s : Site} {o : Outcome} (h : Happened q log x g w s o) where
  abbrev F : Format
  F = format_of q.config

  L : Laws (format_of q.config)
  L = format_laws q.config

  f : Found q x w s
  f = h.found

  -- the table after k stores
  abbrev pub stored : ℕ → List ℕ
  stored k = cut k (table_in q s) (set_stores F s.unit (table_in q s) (target_at s x g))

  pub length-stored : (k : ℕ) → length (stored k) ≡ s.words
  length-stored k = length_cut k (table_in q s) (set_stores F s.unit (table_in q s) (target_at s x g)) ∙ table_length f

  -- ---- what the log tells

  -- A cut set leaves the table so cut.
  pub cut-is : (k : ℕ) → cut_after k q o ≡ lay_in q s (stored k)
  cut-is k =
      let p = f.sited in
      ap (over q)
      (ap₂ (λ (n : ℕ) (l : List ℕ). cut k q.arena (read_log n l)) h.made.records h.made.log_is
      ∙ arena_cut F L s.unit p.unit_least q.arena s.start s.words p.fits p.regions.0 p.regions.1 (target_at s x g)
      p.index
      log h.long k)

  -- The log's granule store stands where the set makes it.
  lead_is : granule_store_after o ≡ lead F s.unit (table_in q s) s.index
  lead_is =
      ap₂ (λ (n : ℕ) (l : List ℕ). stores_before n l) h.made.records h.made.log_is
      ∙ log-lead F L s.unit (table_in q s) (target_at s x g) s.start log h.long

  -- With all the log's stores made it is what the set leaves.
  pub all_made : (k : ℕ) → changed_stores o.answer ≤ k → cut_after k q o ≡ o.left
  unfolding cut
  all_made k m =
      cut-is k
      ∙ ap (λ (l : List Store). lay_in q s (apply (table_in q s) l)) (take_all k (set_stores F s.unit (table_in q s) (target_at s x g))
      (omega (arith, length-stores (site_events q s x g), h.made.stores-made)))
      ∙ sym h.made.left

  -- It is one of the log's stores.
  pub granule_store_made : granule_store_after o < changed_stores o.answer
  unfolding lead
  granule_store_made =
      omega (
        arith,
        lead_is,
        h.made.stores-made,
        length-stores (site_events q s x g),
        simp length-append at (ap length (stores-set F s.unit (table_in q s) (target_at s x g))),
      )

  module _ (ready : Ready q x) where
    agrees : Agrees (format_of q.config) s.unit (table_in q s) s.index
    agrees = rw (f.unit, f.words, f.index) (ready.agree w f.configured s.start (table_of f))

    -- ---- the granules

    flat-old : (k : ℕ) → k ≤ granule_store_after o → map flat (stored k) ≡ map flat (table_in q s)
    flat-old k m = flat-before F L (table_in q s) (target_at s x g) h.aimed s.unit agrees k (omega (arith, lead_is))

    flat-new : (k : ℕ) → granule_store_after o < k → map flat (stored k) ≡ changed_flat F (table_in q s) (target_at s x g)
    flat-new k m = flat_after F L (table_in q s) (target_at s x g) h.aimed s.unit agrees k (omega (arith, lead_is))

    abbrev granules : ℕ → List ℕ
    granules k = granules_after k o q s x g

    flat-is : (k : ℕ) → map flat (stored k) ≡ granules k
    flat-is k = go (leb k (granule_store_after o)) refl
      where
        go : (v : Bool) → leb k (granule_store_after o) ≡ v → map flat (stored k) ≡ granules k
        go true e = rw e (flat-old k (leb-true k (granule_store_after o) e))
        go false e = rw e (flat-new k (leb-false k (granule_store_after o) e))

    flat-granules : (k : ℕ) → map flat (granules k) ≡ granules k
    flat-granules k = ap (map flat) (sym (flat-is k)) ∙ flat-twice (stored k) ∙ flat-is k

    length-granules : (k : ℕ) → length (granules k) ≡ s.words
    length-granules k = map-length flat (granules k) (stored k) (flat-granules k ∙ sym (flat-is k)) ∙ length-stored k

    -- ---- lookups

    pub outside : (k y : ℕ) → y / granule_bytes w ≢ x / granule_bytes w → lookup_of (cut_after k q o) y ≡ lookup_of q y
    outside k y ne =
        ap (λ (r : Lent). lookup_of r y) (cut-is k)
        ∙ looks_same f (stored k) (length-stored k) ready y
        (λ n.
        let j = granule_in w f.listed y in
        read_is (at (stored k) (l1_index w y)) (granule_index w y) j
        ∙ ap reading_of (cut-outside F L (table_in q s) (target_at s x g) h.aimed s.unit agrees k (l1_index w y) (granule_index w y) j
        (λ i r. ne (same_granule w f.listed y x n.below f.below n.entry (i ∙ f.index) (r ∙ f.granule))))
        ∙ sym (read_is (at (table_in q s) (l1_index w y)) (granule_index w y) j))

    pub old : (k y : ℕ) → k ≤ granule_store_after o → lookup_of (cut_after k q o) y ≡ lookup_of q y
    old k y m =
        ap (λ (r : Lent). lookup_of r y) (cut-is k)
        ∙ looks_same f (stored k) (length-stored k) ready y
        (λ n. same_reading (at (stored k) (l1_index w y)) (at (table_in q s) (l1_index w y)) (granule_index w y) (granule_in w f.listed y)
        (map_at flat (stored k) (table_in q s) (flat-old k m) (l1_index w y)))

    pub new : (k y : ℕ) → y / granule_bytes w ≡ x / granule_bytes w → granule_store_after o < k → lookup_of (cut_after k q o) y ≡ Ok h.gpi
    new k y e m =
        let below = below_same w f.listed x y e f.below in
        let i = same_indices w f.listed y x below f.below e in
        ap (λ (r : Lent). lookup_of r y) (cut-is k)
        ∙ looks_new f (stored k) (length-stored k) y (record { below = below; entry = i.0 }) h.gpi (i.1 ∙ sym f.index)
        (i.2 ∙ sym f.granule)
        (read_is (at (stored k) s.index) s.granule f.sited.granule
        ∙ ap reading_of (cut-target_new F L (table_in q s) (target_at s x g) h.aimed s.unit agrees k (omega (arith, lead_is)))
        ∙ ap (λ (n : ℕ). reading_of (some n)) (num-at g h.gpi h.known) ∙ gpi-num h.gpi)
        h.supported

    -- ---- mends

    pub mended : (k : ℕ) (ms : List Mend) (m : Mend) → AllName w x (ms ++ m ∷ []) → l1_words w ≤ m.limit
        → Mending (cut_after k q o) (ms ++ m ∷ []) (lay_in q s (normal_after k o q s x g))
    mended k ms m n i =
        subst (λ (r : Lent). Mending r (ms ++ m ∷ []) (lay_in q s (normal_after k o q s x g))) (sym (cut-is k))
        (subst (λ (T : List ℕ). Mending (lay_in q s (stored k)) (ms ++ m ∷ []) (lay_in q s T))
        (same_normal F L s.unit (stored k) (granules k) (flat-is k ∙ sym (flat-granules k)))
        (mends-finish f (stored k) (length-stored k) ms m n (omega (arith, f.words))))

    pub checked : (k y : ℕ) → Names w x y → check_of (lay_in q s (normal_after k o q s x g)) y ≡ Ok true
    checked k y n = normal-checked f (granules k) (length-normal F L s.unit (granules k) ∙ length-granules k) y n

    pub the_one : (k y : ℕ) → Names w x y → (T : List ℕ) → map flat T ≡ granules k → check_of (lay_in q s T) y ≡ Ok true
        → T ≡ normal_after k o q s x g
    the_one k y n T e v =
        let len : length T ≡ s.words = map-length flat T (granules k) (e ∙ sym (flat-granules k)) ∙ length-granules k in
        yes_table f T len y n v (granules k) (e ∙ sym (flat-granules k))
