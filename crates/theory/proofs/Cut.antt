-- A set cut after any number of its stores, of one table: what it reads, and what mends make of it. These are demand 3's clauses for a
-- table whose entry at the address agrees. Of the crate `theory`.
use mathlib.Core.Path.{◌≡◌, refl, sym, ap, ◌∙◌}
use mathlib.Core.Logic.{◌≢◌}
use mathlib.Core.Bool.{true}
use mathlib.Core.Option.{some}
use mathlib.Core.List.{List, [], ◌∷◌, map}
use Prim.Native.Nat.{ℕ, suc, ◌≤◌, ◌<◌}
use native.Mathlib.Omega.{arith}
use native.Mathlib.Decide.{ℕ_discrete, dec_lt}
use lib.ListN.{length, get_or, set, get_or-map, length-map, length-append}
use lib.Seq.{get_or-set_same, get_or-set_other}
use Rattle.theory.specs.Format.{Format, Laws, gpi, reads, reading}
use Rattle.theory.specs.Normal.{at, span, In, alike, normal}
use Rattle.theory.specs.Mend.{mend, mends}
use Rattle.theory.specs.Stores.{apply, cut, Keeps}
use Rattle.theory.specs.Events.{stores}
use Rattle.theory.specs.Set.{Target, shatter, broken, new_word, lead, changed, set_stores, Agrees, Aimed, changed_flat}
use Rattle.theory.proofs.Lists.{map_at}
use Rattle.theory.proofs.Stores.{each_of, length_cut, cut_all, map-set, map_apply, cut-before, cut-after}
use Rattle.theory.proofs.Ranges.{in_of}
use Rattle.theory.proofs.Normal.{reads-valid, reads-flat, alike-flat, same_valid, same_normal}
use Rattle.theory.proofs.Mend.{mends-then}
use Rattle.theory.proofs.Shatter.{Shatters, shatter-each}
use Rattle.theory.proofs.Set.{granule_store, last, stores-set, each_broken, fusing-level, each_fused}

-- words of one flat word read alike
pub same_reading : (F : Format) → Laws F → (v w n : ℕ) → F.flat v ≡ F.flat w → reading F v n ≡ reading F w n
unfolding reading
same_reading F L v w n e = rw (same_valid F L v w e, e) refl

-- a flat table is its own flat table
flat-twice : (F : Format) → Laws F → (t : List ℕ) → map F.flat (map F.flat t) ≡ map F.flat t
flat-twice F L [] = refl
flat-twice F L (w ∷ ws) = cc (L.flat-flat w, flat-twice F L ws)

-- Agreement, granule by granule: every word in the entry's aligned range is valid and reads its GPI in all sixteen granules.
pub agrees_reads : (F : Format) → Laws F → (u : ℕ) (t : List ℕ) (i l : ℕ) → Agrees F u t i → F.size (at t i) ≡ suc l
    → (k : ℕ) → In (span u l) i k → (n : ℕ) → n < 16 → reading F (at t k) n ≡ some (gpi F (at t i))
unfolding reading
agrees_reads F L u t i l ag e k h n b =
    let r : reads F (at t k) (gpi F (at t i)) ≡ true = ag.agrees l e k h in
    rw (reads-valid F (at t k) (gpi F (at t i)) r, reads-flat F (at t k) (gpi F (at t i)) r)
    (ap some (L.granule_rep (gpi F (at t i)) n b (L.known_low (at t i) (L.size_valid (at t i) l e))))

-- a set of the target q in the table t
module _ (F : Format) (L : Laws F) (t : List ℕ) (q : Target) (a : Aimed F t q) where
  abbrev w : ℕ
  w = at t q.word

  abbrev new : ℕ
  new = F.put (F.flat w) q.granule q.gpi

  flat-new : F.flat new ≡ new
  flat-new = L.put-flat w q.granule q.gpi a.is_valid a.is_granule a.is_gpi

  -- ---- the new granules, said by themselves

  -- They are granules: a flat table.
  pub changed-flat : map F.flat (changed_flat F t q) ≡ changed_flat F t q
  unfolding changed_flat
  changed-flat = map-set F.flat (map F.flat t) q.word new ∙ rw (flat-twice F L t, flat-new) refl

  -- What a table of the new granules reads: the new granules themselves, a set cut after its granule store, a finished set, mends of these.
  module _ (s : List ℕ) (e : map F.flat s ≡ changed_flat F t q) where
    flat-target : F.flat (at s q.word) ≡ new
    unfolding changed_flat
    flat-target =
        sym (get_or-map F.flat s q.word 0)
        ∙ rw e (get_or-set_same (map F.flat t) q.word new (F.flat 0) (rw length-map a.is_word))

    flat-other : (m : ℕ) → m ≢ q.word → F.flat (at s m) ≡ F.flat (at t m)
    unfolding changed_flat
    flat-other m o =
        sym (get_or-map F.flat s m 0)
        ∙ rw e (get_or-set_other (map F.flat t) q.word m new (F.flat 0) o)
        ∙ get_or-map F.flat t m 0

    valid-target : F.valid (at s q.word) ≡ true
    valid-target =
        cc (L.valid_flat (at s q.word), flat-target, L.put-valid w q.granule q.gpi a.is_valid a.is_granule a.is_gpi)

    -- The target reads its new GPI,
    pub new_target : reading F (at s q.word) q.granule ≡ some q.gpi
    unfolding reading
    new_target = rw (valid-target, flat-target, L.put_same w q.granule q.gpi a.is_valid a.is_granule a.is_gpi) refl

    -- and every granule outside the target reads as before.
    pub new_outside : (m n : ℕ) → n < 16 → (m ≡ q.word → n ≢ q.granule) → reading F (at s m) n ≡ reading F (at t m) n
    unfolding reading
    new_outside m n n< o = go (ℕ_discrete m q.word)
      where
        go : Dec (m ≡ q.word) → reading F (at s m) n ≡ reading F (at t m) n
        go (yes p) =
            let e = L.put_other w q.granule q.gpi n a.is_valid a.is_granule a.is_gpi n< (o p) in
            rw (p, valid-target, flat-target, e, a.is_valid) refl
        go (no p) = same_reading F L (at s m) (at t m) n (flat-other m p)

  -- ---- what the stores keep

  module _ (u : ℕ) (ag : Agrees F u t q.word) where
    -- The fills of the shatter keep what the table reads, where the entry at the address agrees.
    pub broken-keeps : Keeps F.flat (map F.flat t) (stores (broken F u t q.word))
    broken-keeps =
        let i : ℕ = q.word in
        let g : ℕ = gpi F (at t i) in
        each_broken F u t i _ (λ l e.
        each_of (Shatters F u g i l) (λ s. F.flat s.word ≡ get_or (map F.flat t) s.index (F.flat 0))
        (λ s h.
        h.2
        ∙ sym (reads-flat F (at t s.index) g (ag.agrees l e s.index (in_of (span u l) i s.index h.0 h.1)))
        ∙ sym (get_or-map F.flat t s.index 0))
        (stores (shatter F u g i l)) (shatter-each F u g i L (L.known_low (at t i) a.is_valid) l (L.size_small (at t i) l e)))

    -- The table before the fuse has the new granules.
    pub flat-changed : map F.flat (changed F u t q) ≡ changed_flat F t q
    unfolding changed changed_flat new_word
    flat-changed =
        map-set F.flat (apply t (stores (broken F u t q.word))) q.word new
        ∙ rw (map_apply F.flat t (stores (broken F u t q.word)) broken-keeps, flat-new) refl

    -- The fill of the fuse keeps the new granules.
    pub fused_keeps : Keeps F.flat (changed_flat F t q) (stores (last F u t q))
    fused_keeps =
        each_fused F u t q (λ s. F.flat s.word ≡ get_or (changed_flat F t q) s.index (F.flat 0)) (λ l e k h.
        let m : (l < 3) × (alike F (at (changed F u t q)) (span u l) q.word q.gpi ≡ true) = fusing-level F u t q l e in
        L.flat-contig l q.gpi m.0 a.is_gpi
        ∙ sym (alike-flat F (at (changed F u t q)) (span u l) q.word q.gpi m.1 k h)
        ∙ sym (get_or-map F.flat (changed F u t q) k 0)
        ∙ ap (λ (l : List ℕ). get_or l k (F.flat 0)) flat-changed)

    -- ---- THE CUT THEOREMS, at every k

    -- After k stores, where the granule store isn't among them, the table has the old granules.
    pub flat-before : (k : ℕ) → k ≤ lead F u t q.word → map F.flat (cut k t (set_stores F u t q)) ≡ map F.flat t
    unfolding lead
    flat-before k h =
        rw (stores-set F u t q)
        (cut-before F.flat t (stores (broken F u t q.word)) (granule_store F t q) (stores (last F u t q)) broken-keeps k h)

    -- After k stores, where it is, the table has the new granules.
    pub flat_after : (k : ℕ) → lead F u t q.word < k → map F.flat (cut k t (set_stores F u t q)) ≡ changed_flat F t q
    unfolding lead
    flat_after k h =
        rw (stores-set F u t q)
        (cut-after F.flat t (stores (broken F u t q.word)) (granule_store F t q) (stores (last F u t q)) broken-keeps
        (rw now fused_keeps) k h
        ∙ now)
      where
        now : set (map F.flat t) q.word (F.flat (new_word F t q)) ≡ changed_flat F t q
        now = unfold new_word changed_flat in rw flat-new refl

    -- So has the table of a set that isn't cut.
    pub flat-set : map F.flat (apply t (set_stores F u t q)) ≡ changed_flat F t q
    unfolding lead
    flat-set = rw cut_all at (flat_after (length (set_stores F u t q)) (rw (stores-set F u t q) (simp length-append (omega arith))))

    module _ (k : ℕ) where
      -- the table cut after k stores
      abbrev after : List ℕ
      after = cut k t (set_stores F u t q)

      -- Every granule outside the target reads as before, wherever the set is cut.
      pub cut-outside : (m n : ℕ) → n < 16 → (m ≡ q.word → n ≢ q.granule) → reading F (at after m) n ≡ reading F (at t m) n
      cut-outside m n n< o = go (dec_lt (lead F u t q.word) k)
        where
          go : Dec (lead F u t q.word < k) → reading F (at after m) n ≡ reading F (at t m) n
          go (yes h) = new_outside after (flat_after k h) m n n< o
          go (no h) = same_reading F L _ (at t m) n (map_at F.flat after t (flat-before k (omega arith)) m)

      -- The target reads as before up to the granule store,
      pub cut-target_old : k ≤ lead F u t q.word → reading F (at after q.word) q.granule ≡ reading F (at t q.word) q.granule
      cut-target_old h = same_reading F L _ (at t q.word) q.granule (map_at F.flat after t (flat-before k h) q.word)

      -- and its new GPI from the granule store on.
      pub cut-target_new : lead F u t q.word < k → reading F (at after q.word) q.granule ≡ some q.gpi
      cut-target_new h = new_target after (flat_after k h)

      -- Mends of it, of any limits, and then one that no limit stops:
      module _ (u-pos : 0 < u) (ks : List ℕ) (n : ℕ) (long : length t ≤ n) where
        abbrev mended : List ℕ
        mended = mend F u n (mends F u ks after)

        mended-is : mended ≡ normal F u after
        mended-is = mends-then F L u u-pos ks n after (rw length_cut long)

        -- the normal table of the old granules up to the granule store,
        pub mended_old : k ≤ lead F u t q.word → mended ≡ normal F u t
        mended_old h = mended-is ∙ same_normal F L u after t (flat-before k h)

        -- the normal table of the new granules from it on.
        pub mended_new : lead F u t q.word < k → mended ≡ normal F u (changed_flat F t q)
        mended_new h = mended-is ∙ same_normal F L u after (changed_flat F t q) (flat_after k h ∙ sym changed-flat)
