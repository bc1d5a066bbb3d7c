-- Whole tables: a normal table is whole, a whole table's entries agree, a finished set keeps a table whole, a finished mend makes it so. Of
-- the crate `theory`.
use mathlib.Core.Path.{◌≡◌, refl, sym, ap, ◌∙◌}
use mathlib.Core.Bool.{true}
use mathlib.Core.List.{List, ◌∷◌}
use Prim.Native.Nat.{ℕ, zero, suc, ◌+◌, ◌-◌, ◌*◌, ◌≤◌, ◌<◌}
use native.Mathlib.Nat.{div-mul-le_self}
use native.Mathlib.Decide.{dec_lt, ℕ_discrete}
use native.Mathlib.Omega.{arith}
use borrow.Author.Tests.{eq-eqb, ne_eqb}
use lib.ListN.{length, set, length-set, take}
use lib.Seq.{get_or-set_same, get_or-set_other}
use Rattle.std.specs.Prelude.{Err, None, Ok, Option, Result, Some}
use Rattle.theory.specs.Format.{Format, Laws, gpi, reads}
use Rattle.theory.specs.Normal.{at, span, base, In, normal_word, build, normal}
use Rattle.theory.specs.Stores.{apply, fill}
use Rattle.theory.specs.Mend.{mend, mends, repairs, mending}
use Rattle.theory.specs.Events.{stores}
use Rattle.theory.specs.Set.{Target, shatter, breaks, broken, new_word, fused, fusing, set_stores, Agrees, Aimed}
use Rattle.theory.specs.Whole.{Same, Whole}
use Rattle.theory.proofs.Lists.{length-build, at-build}
use Rattle.theory.proofs.Stores.{each_of, apply-append, length-apply, apply-out, fill-in, fill-out}
use Rattle.theory.proofs.Ranges.{span_pos, in_of, in_dec, in_sym, in_trans, in_le, in_table, in_self}
use Rattle.theory.proofs.Normal.{length-normal, at-normal, normal-normal, alike_of}
use Rattle.theory.proofs.Levels.{Ranged, normal_up_to-range, up_true}
use Rattle.theory.proofs.Mend.{mends-then}
use Rattle.theory.proofs.Shatter.{stores-fill, Shatters, shatter-each, shatter-range, flat-rep}
use Rattle.theory.proofs.Set.{granule_store, last, stores-set, broken-at, fusing-level}

module _ (F : Format) (L : Laws F) (u : ℕ) (u-pos : 0 < u) where
  -- ---- whole implies agreement

  reads-entry : (w l g : ℕ) → F.size w ≡ suc l → gpi F w ≡ g → reads F w g ≡ true
  unfolding reads
  reads-entry w l g e q = rw (L.size_valid w l e) (eq-eqb (F.flat w) (F.rep g) (L.size_rep w l e ∙ ap F.rep q))

  -- Every contiguous entry of a whole table agrees.
  pub whole_agrees : (t : List ℕ) → Whole F u t → (i : ℕ) → i < length t → Agrees F u t i
  whole_agrees t w i b =
      record {
        agrees = λ l e k h.
            let s : Same F (at t k) (at t i) = w.whole i l b e k h in
            reads-entry (at t k) l (gpi F (at t i)) (s.size ∙ e) s.gpi;
      }

  -- ---- a table that differs from a whole one only at the indices of P, and has whole entries there

  same_of : (v w x : ℕ) → v ≡ x → w ≡ x → Same F v w
  same_of v w x p q = record { size = cc; gpi = ap (gpi F) (p ∙ sym q) }

  patch : (t t' : List ℕ) (P : ℕ → Type 0) → ((k : ℕ) → Dec (P k)) → length t' ≡ length t
      → ((k : ℕ) → (P k → ⊥) → at t' k ≡ at t k)
      → ((k l : ℕ) → k < length t → (P k → ⊥) → F.size (at t k) ≡ suc l → (k' : ℕ) → In (span u l) k k' → P k' → ⊥)
      → ((k l : ℕ) → k < length t → P k → F.size (at t' k) ≡ suc l → (k' : ℕ) → In (span u l) k k' → Same F (at t' k') (at t' k))
      → Whole F u t → Whole F u t'
  patch t t' P d len out apart inside w = record { whole = λ i l b e k h. go i l (omega arith) e k h (d i) }
    where
      go : (i l : ℕ) → i < length t → F.size (at t' i) ≡ suc l → (k : ℕ) → In (span u l) i k → Dec (P i) → Same F (at t' k) (at t' i)
      go i l b e k h (yes p) = inside i l b p e k h
      go i l b e k h (no p) =
          let x : at t' i ≡ at t i = out i p in
          let e' : F.size (at t i) ≡ suc l = ap F.size (sym x) ∙ e in
          let y : at t' k ≡ at t k = out k (apart i l b p e' k h) in
          rw (x, y) (w.whole i l b e' k h)

  module _ (t : List ℕ) (m : ℕ) (regions : length t ≡ m * span u 2) where
    -- A normal table is whole.
    pub normal-whole : t ≡ normal F u t → Whole F u t
    normal-whole norm = record { whole = go }
      where
        word : (k : ℕ) → k < length t → at t k ≡ normal_word F u (at t) k
        word k b = ap (λ (l : List ℕ). at l k) norm ∙ at-normal F L u t k b

        go : (i l : ℕ) → i < length t → F.size (at t i) ≡ suc l → (k : ℕ) → In (span u l) i k → Same F (at t k) (at t i)
        go i l b e k h =
            let x : Ranged F L u u-pos (at t) 3 i l
            = normal_up_to-range F L u u-pos (at t) 3 (omega arith) i l (L.size_valid (at t i) l e) (ap F.size (sym (word i b)) ∙ e) in
            let k< : k < length t = in_table u u-pos t m regions i b l k x.0 h in
            let i-in : In (span u l) i i = in_trans (span u l) i k i h (in_sym (span u l) i k (span_pos u l u-pos) h) in
            same_of (at t k) (at t i) (F.contig l (gpi F (at t i))) (word k k< ∙ x.2 k h) (word i b ∙ x.2 i i-in)

    module _ (i : ℕ) (i< : i < length t) (w : Whole F u t) where
      -- a shatter keeps a table whole
      shatter-whole : (n : ℕ) → F.size (at t i) ≡ suc n → Whole F u (apply t (stores (shatter F u (gpi F (at t i)) i n)))
      shatter-whole n e =
          patch t t' (In (span u n) i) (in_dec (span u n) i) (length-apply t (stores (shatter F u g i n)))
          (λ k o. apply-out t (base (span u n) i) (span u n) (stores (shatter F u g i n))
          (each_of (Shatters F u g i n) _ (λ s q. (q.0, q.1)) (stores (shatter F u g i n)) (shatter-each F u g i L known n small))
          k (λ a b. o (in_of (span u n) i k a b)))
          apart inside w
        where
          g : ℕ
          g = gpi F (at t i)

          t' : List ℕ
          t' = apply t (stores (shatter F u (gpi F (at t i)) i n))

          small : n < 3
          small = L.size_small (at t i) n e

          known : F.known (gpi F (at t i)) ≡ true
          known = L.known_low (at t i) (L.size_valid (at t i) n e)

          apart : (k l : ℕ) → k < length t → (In (span u n) i k → ⊥) → F.size (at t k) ≡ suc l → (k' : ℕ) → In (span u l) k k'
              → In (span u n) i k' → ⊥
          apart k l b o q k' h p =
              let a : F.size (at t k') ≡ F.size (at t k) = (w.whole k l b q k' h).size in
              let c : F.size (at t k') ≡ F.size (at t i) = (w.whole i n i< e k' p).size in
              let z : l ≡ n = omega arith in
              o (in_trans (span u n) i k' k p (in_sym (span u n) k k' (span_pos u n u-pos) (rw z at h)))

          inside : (k l : ℕ) → k < length t → In (span u n) i k → F.size (at t' k) ≡ suc l → (k' : ℕ) → In (span u l) k k'
              → Same F (at t' k') (at t' k)
          inside k l b p q k' h =
              let x : (l < n) × ((j : ℕ) → In (span u l) k j → at t' j ≡ F.contig l (gpi F (at t i)))
              = shatter-range F u (gpi F (at t i)) i L known u-pos n small t k l p
              (λ j y. in_table u u-pos t m regions i i< n j small y) q in
              let k-in : In (span u l) k k = in_trans (span u l) k k' k h (in_sym (span u l) k k' (span_pos u l u-pos) h) in
              same_of (at t' k') (at t' k) (F.contig l (gpi F (at t i))) (x.1 k' h) (x.1 k k-in)

      -- a granule word in the place of a granule word
      granule-whole : (v : ℕ) → F.size (at t i) ≡ 0 → F.size v ≡ 0 → Whole F u (set t i v)
      granule-whole v e₀ e₁ =
          patch t (set t i v) (λ k. k ≡ i) (λ k. ℕ_discrete k i) (length-set t i v)
          (λ k o. get_or-set_other t i k v 0 o)
          (λ k l b o q k' h p.
          let a : F.size (at t k') ≡ F.size (at t k) = (w.whole k l b q k' h).size in
          let c : F.size (at t k') ≡ 0 = rw p e₀ in
          omega arith)
          (λ k l b p q k' h.
          let a : at (set t i v) k ≡ v = rw p (get_or-set_same t i v 0 i<) in
          let c : F.size (at (set t i v) k) ≡ 0 = ap F.size a ∙ e₁ in
          absurd (omega arith))
          w

      -- a fuse around a granule word
      fuse-whole : (g n : ℕ) → F.known g ≡ true → n < 3 → F.size (at t i) ≡ 0
          → Whole F u (apply t (fill (base (span u n) i) (span u n) (F.contig n g)))
      fuse-whole g n kn small e₀ =
          patch t t' (In (span u n) i) (in_dec (span u n) i) (length-apply t (fill (base (span u n) i) (span u n) (F.contig n g)))
          (λ k o. fill-out t (base (span u n) i) (span u n) (F.contig n g) k (λ a b. o (in_of (span u n) i k a b)))
          (λ k l b o q k' h p. apart k l b o q k' h p (dec_lt n l))
          (λ k l b p q k' h.
          let x : at t' k ≡ F.contig n g = filled k b p in
          let y : suc n ≡ suc l = sym (ap F.size x ∙ L.size_contig n g small kn) ∙ q in
          let z : l ≡ n = omega arith in
          let p' : In (span u n) i k' = in_trans (span u n) i k k' p (rw z at h) in
          same_of (at t' k') (at t' k) (F.contig n g) (filled k' (in_table u u-pos t m regions i i< n k' small p') p') x)
          w
        where
          t' : List ℕ
          t' = apply t (fill (base (span u n) i) (span u n) (F.contig n g))

          filled : (k : ℕ) → k < length t → In (span u n) i k → at t' k ≡ F.contig n g
          filled k b h = fill-in t (base (span u n) i) (span u n) (F.contig n g) k h.from h.to b

          apart : (k l : ℕ) → k < length t → (In (span u n) i k → ⊥) → F.size (at t k) ≡ suc l → (k' : ℕ) → In (span u l) k k'
              → In (span u n) i k' → Dec (n < l) → ⊥
          apart k l b o q k' h p (yes d) =
              let z : (l - n) + n ≡ l = omega arith in
              let c : In (span u l) k' i = rw z at (in_le u n (l - n) k' i (in_sym (span u n) i k' (span_pos u n u-pos) p)) in
              let s : F.size (at t i) ≡ F.size (at t k) = (w.whole k l b q i (in_trans (span u l) k k' i h c)).size in
              omega arith
          apart k l b o q k' h p (no d) =
              let z : (n - l) + l ≡ n = omega arith in
              let c : In (span u n) k' k = rw z at (in_le u l (n - l) k' k (in_sym (span u l) k k' (span_pos u l u-pos) h)) in
              o (in_trans (span u n) i k' k p c)

  -- ---- a finished set

  module _ (t : List ℕ) (m : ℕ) (regions : length t ≡ m * span u 2) (q : Target) (a : Aimed F t q) (w : Whole F u t) where
    abbrev i : ℕ
    i = q.word

    abbrev t₁ : List ℕ
    t₁ = apply t (stores (broken F u t i))

    abbrev t₂ : List ℕ
    t₂ = set t₁ i (new_word F t q)

    len₁ : length t₁ ≡ length t
    len₁ = length-apply t (stores (broken F u t i))

    len₂ : length t₂ ≡ length t
    len₂ = length-set t₁ i (new_word F t q) ∙ len₁

    whole₁ : Whole F u t₁
    unfolding broken breaks apply stores
    whole₁ = go (F.size (at t i)) refl
      where
        go : (s : ℕ) → F.size (at t i) ≡ s → Whole F u (apply t (stores (breaks F u (gpi F (at t i)) i s)))
        go zero e = w
        go (suc l) e = shatter-whole t m regions i a.is_word w l e

    size₁ : F.size (at t₁ i) ≡ 0
    size₁ = ap F.size (broken-at F L u u-pos t i a.is_word) ∙ L.size_of-flat (at t i)

    size-new : F.size (new_word F t q) ≡ 0
    unfolding new_word
    size-new =
        ap F.size (sym (L.put-flat (at t i) q.granule q.gpi a.is_valid a.is_granule a.is_gpi))
        ∙ L.size_of-flat (F.put (F.flat (at t i)) q.granule q.gpi)

    whole₂ : Whole F u t₂
    whole₂ = granule-whole t₁ m (len₁ ∙ regions) i (omega (arith, len₁, a.is_word)) whole₁ (new_word F t q) size₁ size-new

    size₂ : F.size (at t₂ i) ≡ 0
    size₂ = ap F.size (get_or-set_same t₁ i (new_word F t q) 0 (omega (arith, len₁, a.is_word))) ∙ size-new

    -- A finished set keeps a table whole, whether it fuses, doesn't, or answers 10.
    pub set-whole : Whole F u (apply t (set_stores F u t q))
    unfolding fused apply stores
    set-whole =
        rw (stores-set F u t q, apply-append t (stores (broken F u t i)) (granule_store F t q ∷ stores (last F u t q)))
        (go (fusing F u t q) refl)
      where
        go : (f : Result (Option ℕ) ℕ) → fusing F u t q ≡ f → Whole F u (apply t₂ (stores (fused F u q.gpi i f)))
        go (Ok None) e = whole₂
        go (Ok (Some l)) e =
            rw (stores-fill (base (span u l) i) (span u l) (F.contig l q.gpi))
            (fuse-whole t₂ m (len₂ ∙ regions) i (omega (arith, len₂, a.is_word)) whole₂ q.gpi l a.is_gpi
            (fusing-level F u t q l e).0 size₂)
        go (Err k) e = whole₂

  -- Mends of any table, of any limits, and then one that no limit stops, leave a whole table: it is the normal table of the start.
  pub mends-whole : (t : List ℕ) (m : ℕ) → length t ≡ m * span u 2 → (ks : List ℕ) (n : ℕ) → length t ≤ n
      → Whole F u (mend F u n (mends F u ks t))
  mends-whole t m regions ks n long =
      rw (mends-then F L u u-pos ks n t long)
      (normal-whole (normal F u t) m (length-normal F L u t ∙ regions) (sym (normal-normal F L u u-pos t)))

  -- ---- a mend that its limit stops

  module _ (g : ℕ) (known : F.known g ≡ true) where
    -- 512 MB of granule words of g
    abbrev pub granules : List ℕ
    granules = build (λ _. F.rep g) 0 (span u 2)

    large : 2 ≤ span u 2
    unfolding span
    large = omega arith

    at-granules : (k : ℕ) → k < span u 2 → at granules k ≡ F.rep g
    at-granules k b = at-build (λ _. F.rep g) 0 (span u 2) k b

    reads-rep : reads F (F.rep g) g ≡ true
    unfolding reads
    reads-rep =
        let v : F.valid (F.rep g) ≡ true
        = cc (
          L.flat-contig 0 g (omega arith) known,
          L.valid_flat (F.contig 0 g),
          L.size_valid (F.contig 0 g) 0 (L.size_contig 0 g (omega arith) known),
        ) in
        rw v (eq-eqb (F.flat (F.rep g)) (F.rep g) (flat-rep F L g known))

    size-granules : (k : ℕ) → k < span u 2 → F.size (at granules k) ≡ 0
    size-granules k b = ap F.size (at-granules k b ∙ sym (flat-rep F L g known)) ∙ L.size_of-flat (F.rep g)

    gpi-granules : gpi F (at granules 0) ≡ g
    gpi-granules = ap (gpi F) (at-granules 0 (omega (arith, large))) ∙ ap F.low (flat-rep F L g known) ∙ L.low_rep g known

    normal-granules : normal_word F u (at granules) 0 ≡ F.contig 2 g
    normal-granules =
        up_true F L u u-pos (at granules) 2 0 0
        (rw gpi-granules
        (alike_of F (at granules) (span u 2) 0 g
        (λ k h. rw (at-granules k (omega (arith, h.to, div-mul-le_self 0 (span u 2)))) reads-rep)))
        (in_self (span u 2) 0 (omega (arith, large)))
        ∙ ap (F.contig 2) gpi-granules

    size-normal : F.size (normal_word F u (at granules) 0) ≡ 3
    size-normal = ap F.size normal-granules ∙ L.size_contig 2 g (omega arith) known

    -- a mend of the limit 1 stores the first word
    stopped : mend F u 1 granules ≡ set granules 0 (normal_word F u (at granules) 0)
    unfolding mend mending repairs apply
    stopped = go (length granules) (rw length-build (omega (arith, large)))
      where
        go : (n : ℕ) → 0 < n
            → apply granules (take 1 (repairs (at granules) (normal_word F u (at granules)) 0 n))
            ≡ set granules 0 (normal_word F u (at granules) 0)
        go zero b = absurd (omega arith)
        go (suc n) b =
            rw (ne_eqb (at granules 0) (normal_word F u (at granules) 0)
            (λ q.
            let z : F.size (at granules 0) ≡ 3 = ap F.size q ∙ size-normal in
            omega (arith, size-granules 0 (omega (arith, large))))) refl

    -- A mend that its limit stopped need not leave a whole table: that word claims 512 MB of granule words.
    pub stopped_not_whole : Whole F u (mend F u 1 granules) → ⊥
    stopped_not_whole w =
        let n : length granules ≡ span u 2 = length-build (λ _. F.rep g) 0 (span u 2) in
        let w' : Whole F u (set granules 0 (normal_word F u (at granules) 0)) = rw stopped at w in
        let here : at (set granules 0 (normal_word F u (at granules) 0)) 0 ≡ normal_word F u (at granules) 0
        = get_or-set_same granules 0 (normal_word F u (at granules) 0) 0 (omega (arith, large)) in
        let next : at (set granules 0 (normal_word F u (at granules) 0)) 1 ≡ at granules 1
        = get_or-set_other granules 0 1 (normal_word F u (at granules) 0) 0 (λ q. omega arith) in
        let s : F.size (at (set granules 0 (normal_word F u (at granules) 0)) 0) ≡ 3 = ap F.size here ∙ size-normal in
        let z : F.size (at (set granules 0 (normal_word F u (at granules) 0)) 1) ≡ 0
        = ap F.size next ∙ size-granules 1 (omega (arith, large)) in
        let e : Same F (at (set granules 0 (normal_word F u (at granules) 0)) 1) (at (set granules 0 (normal_word F u (at granules) 0)) 0)
        = w'.whole 0 2 (rw length-set (omega (arith, large))) s 1
        (in_of (span u 2) 0 1 (omega (arith, div-mul-le_self 0 (span u 2))) (omega (arith, large))) in
        omega (arith, e.size)
