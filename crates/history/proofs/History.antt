-- Demand 3 over time: while sets, cut sets and mends follow one another, every address looks up as the ideal says. Each act's lookups are
-- demand 3's, or a mend's, and what it leaves is sound.
use mathlib.Core.Path.{◌≡◌, refl, sym, ap, ◌∙◌, subst}
use mathlib.Core.Bool.{Bool, true, false, cond, not, ◌&&◌}
use mathlib.Core.List.{List, [], ◌∷◌}
use Prim.Native.Nat.{ℕ, zero, suc, ◌/◌, ◌<◌}
use native.Mathlib.Decide.{ℕ_discrete}
use native.Mathlib.Omega.{arith}
use borrow.Author.Tests.{eq-eqb, ne_eqb, ltb-true, ltb-false}
use lib.Dec.{eqb, ltb}
use lib.ListN.{take}
use Rattle.std.specs.Prelude.{Err, Ok, Result}
use Rattle.gpi.specs.Gpi.{gpi_at}
use Rattle.theory.specs.Stores.{apply}
use Rattle.theory.specs.Events.{stores}
use Rattle.theory.specs.Mend.{mend, mends as mends_of}
use Rattle.theory.specs.Whole.{Whole}
use Rattle.theory.proofs.Stores.{length-apply}
use Rattle.theory.proofs.Mend.{length-mend}
use Rattle.theory.proofs.Whole.{set-whole, mends-whole}
use Rattle.config.specs.declared.Widths.{Widths}
use Rattle.config.specs.Index.{l0_index, l1_words, granule_bytes}
use Rattle.config.specs.Format.{format_of}
use Rattle.config.proofs.Format.{format_laws}
use Rattle.resolve.specs.declared.Call.TheVariants.{Plain}
use Rattle.resolve.specs.declared.Refusal.{Refusal}
use Rattle.resolve.specs.declared.Site.{Site}
use Rattle.resolve.specs.Refusals.{refusal_number}
use Rattle.resolve.specs.Lent.{Lent, placed, table_in, lay_in}
use Rattle.resolve.proofs.Numbers.{refusal_number_lem}
use Rattle.resolve.proofs.Found.{Found, found, table_length}
use Rattle.gpt.specs.Lookup.{lookup_of}
use Rattle.gpt.specs.Set.{Outcome, changed_stores, target_at, site_events}
use Rattle.mend.specs.Outcome.{named_by, mended_number, mended_at, mend_of}
use Rattle.mend.proofs.Sites.{named_in}
use Rattle.mend.proofs.Lookups.{mend-looks}
use Rattle.cut_and_mend.specs.Demand3.{Ready, cut_after, granule_store_after}
use Rattle.cut_and_mend.proofs.Looks.{table_of}
use Rattle.cut_and_mend.proofs.Happened.{Happened, happened}
use Rattle.cut_and_mend.proofs.Cut.{stored, length-stored, cut-is, all_made, granule_store_made, outside, old, new}
use Rattle.history.specs.History.{Request, Act, sets, cuts, mends, change, act_marks, made}
use Rattle.history.specs.History.{State, start, act, acts, Aimed, May, Allowed, Sound, Kept}
use Rattle.history.proofs.Tables.{sound_ready, lay_sound}

module _ (w : Widths) (S : State) (K : Kept w S) where
  abbrev q : Lent
  q = S.lent

  -- ---- a set that answers 0 or 10, of a table that is marked

  module _ (r : Request) (a : Aimed w S r) where
    abbrev x : ℕ
    x = r.address

    abbrev o : Outcome
    o = change q r

    -- it happened at a site s
    module _ (s : Site) (h : Happened q r.log r.address r.gpi w s (change q r)) where
      ready : Ready q r.address
      ready = sound_ready K.sound h.found a.is_marked

      -- cut from its granule store on, the target's granule answers the GPI, and every other address as before
      made-looks : (k : ℕ) → granule_store_after o < k → (y : ℕ) → lookup_of (cut_after k q o) y ≡ made w x (gpi_at r.gpi) S.ideal y
      made-looks k m y = rw h.known (go (ℕ_discrete (y / granule_bytes w) (x / granule_bytes w)))
        where
          go : Dec (y / granule_bytes w ≡ x / granule_bytes w)
              → lookup_of (cut_after k q o) y ≡ cond (eqb (y / granule_bytes w) (x / granule_bytes w)) (Ok h.gpi) (S.ideal y)
          go (yes e) = rw (eq-eqb (y / granule_bytes w) (x / granule_bytes w) e) (new h ready k y e m)
          go (no e) = rw (ne_eqb (y / granule_bytes w) (x / granule_bytes w) e) (outside h ready k y e ∙ K.looks y)

      cut-looks : (k y : ℕ) (b : Bool) → ltb (granule_store_after o) k ≡ b
          → lookup_of (cut_after k q o) y ≡ cond b (made w x (gpi_at r.gpi) S.ideal y) (S.ideal y)
      cut-looks k y true e = made-looks k (ltb-true (granule_store_after o) k e) y
      cut-looks k y false e = old h ready k y (ltb-false (granule_store_after o) k e) ∙ K.looks y

      -- a cut makes the table doubtful
      cut-sound : (k : ℕ) → Sound w (cut_after k q o) (act_marks w (cuts r k) q S.marks)
      cut-sound k =
          rw (cut-is h k)
          (lay_sound K.sound h.found (stored h k) (length-stored h k) (λ d. cond (eqb d (l0_index w x)) false (S.marks d))
          (λ m. absurd (no-mark (rw (eq-eqb (l0_index w x) (l0_index w x) refl) at m)))
          (λ e d m. rw (ne_eqb e (l0_index w x) d) at m))
        where
          no-mark : false ≡ true → ⊥
          no-mark e = let z : ◌≡◌ {A = ℕ} 0 1 = cc in omega arith

      -- the table is whole, and a finished set keeps it so
      whole : Whole (format_of q.config) s.unit (table_in q s)
      whole = let f = h.found in rw (f.unit, f.words) (K.sound.whole (l0_index w x) s.start (table_of f) a.is_marked)

      set-sound : Sound w o.left S.marks
      set-sound =
          let f = h.found in
          rw h.made.left
          (lay_sound K.sound f (apply (table_in q s) (stores (site_events q s x r.gpi))) (length-apply _ _ ∙ table_length f) S.marks
          (λ m. set-whole (format_of q.config) (format_laws q.config) s.unit f.sited.unit_least (table_in q s)
          f.sited.regions.0
          (table_length f ∙ f.sited.regions.1) (target_at s x r.gpi) h.aimed whole)
          (λ e d m. m))

      cut-kept : (k : ℕ) → Kept w (act w (cuts r k) S)
      unfolding act
      cut-kept k = record { sound = cut-sound k; looks = λ y. cut-looks k y (ltb (granule_store_after o) k) refl }

      -- a finished set is one cut after all its stores
      set-kept : Kept w (act w (sets r) S)
      unfolding act
      set-kept =
          record {
            sound = set-sound;
            looks = λ y.
                ap (λ (p : Lent). lookup_of p y) (sym (all_made h (changed_stores o.answer) (omega arith)))
                ∙ made-looks (changed_stores o.answer) (granule_store_made h) y;
          }

    -- the site, by the state's widths
    site : (s : Site) × Happened q r.log r.address r.gpi w s (change q r)
    site =
        let p = happened q r.log x r.gpi a.answers in
        let e : Ok p.0 ≡ Ok w = sym p.2.found.configured ∙ K.sound.configured in
        let e : p.0 ≡ w = cc in
        (p.1, subst (λ (v : Widths). Happened q r.log x r.gpi v p.1 o) e p.2)

  -- ---- a mend

  module _ (x n : ℕ) where
    -- the marks, by what the mend comes to
    abbrev marks : ℕ → ℕ → Bool
    marks m d = cond (eqb m 0 && eqb d (l0_index w x)) (not (ltb n (l1_words w))) (S.marks d)

    -- one that is refused changes nothing
    refused : (c : Refusal) → Sound w q (marks (refusal_number c))
    refused c =
        let z : (d : ℕ) → marks (refusal_number c) d
        ≡ S.marks d = λ d. rw (ne_eqb (refusal_number c) 0 (λ e. omega (arith, (refusal_number_lem c).0))) refl in
        record { configured = K.sound.configured; apart = K.sound.apart; whole = λ e p a m. K.sound.whole e p a (sym (z e) ∙ m) }

    -- one that no limit stops makes the table whole
    module _ (s : Site) (f : Found q x w s) where
      mended : (b : Bool) → ltb n (l1_words w) ≡ b → not b ≡ true
          → Whole (format_of q.config) s.unit (mend (format_of q.config) s.unit n (table_in q s))
      unfolding mends_of
      mended true e m = let z : ◌≡◌ {A = ℕ} 0 1 = cc in absurd (omega arith)
      mended false e m =
          mends-whole (format_of q.config) (format_laws q.config) s.unit f.sited.unit_least (table_in q s) f.sited.regions.0
          (table_length f ∙ f.sited.regions.1) [] n (omega (arith, table_length f, f.words, ltb-false n (l1_words w) e))

      mend-sound : Sound w (lay_in q s (mend (format_of q.config) s.unit n (table_in q s))) (marks 0)
      mend-sound =
          lay_sound K.sound f (mend (format_of q.config) s.unit n (table_in q s))
          (length-mend (format_of q.config) s.unit n (table_in q s) ∙ table_length f) (marks 0)
          (λ m. mended (ltb n (l1_words w)) refl (rw (eq-eqb (l0_index w x) (l0_index w x) refl) at m))
          (λ e d m. rw (ne_eqb e (l0_index w x) d) at m)

    mend-kept : Kept w (act w (mends x n) S)
    unfolding act mend_of mended_at
    mend-kept = record { sound = go (named_by (placed q x)) refl; looks = λ y. mend-looks q x n y ∙ K.looks y }
      where
        go : (p : Result Site Refusal) → named_by (placed q x) ≡ p
            → Sound w (mended_at q n (named_by (placed q x))).left (marks (mended_number (mended_at q n (named_by (placed q x))).answer))
        go (Err c) e = rw e (refused c)
        go (Ok s) e =
            let p = found q Plain x s (named_in (placed q x) s e) in
            let k : Ok p.0 ≡ Ok w = sym p.1.configured ∙ K.sound.configured in
            let k : p.0 ≡ w = cc in
            rw e (mend-sound s (subst (λ (v : Widths). Found q x v s) k p.1))

act-kept : (w : Widths) (a : Act) (S : State) → Kept w S → May w S a → Kept w (act w a S)
act-kept w (sets r) S K m = let p = site w S K r m in set-kept w S K r m p.0 p.1
act-kept w (cuts r k) S K m = let p = site w S K r m in cut-kept w S K r m p.0 p.1 k
act-kept w (mends x n) S K m = mend-kept w S K x n

-- ---- THE HISTORY THEOREM

acts-kept : (w : Widths) (l : List Act) (S : State) → Kept w S → Allowed w l S → (k : ℕ) → Kept w (acts w (take k l) S)
unfolding acts
acts-kept w l S K a zero = K
acts-kept w [] S K a (suc k) = K
acts-kept w (b ∷ l) S K a (suc k) = acts-kept w l (act w b S) (act-kept w b S K a.0) a.1 k

-- From an arena whose tables share no word, after any number of any sets that answer 0 or 10 in tables known to be whole, of such sets cut
-- after any number of stores, and of mends of any limit: every address looks up as it did at the start, but for the granules whose granule
-- store was made since, and those look up as the last such store says. And the tables known to be whole are.
pub history : (w : Widths) (q : Lent) (marks : ℕ → Bool) → Sound w q marks → (l : List Act) → Allowed w l (start q marks)
    → (k : ℕ) → Kept w (acts w (take k l) (start q marks))
history w q marks R l a k = acts-kept w l (start q marks) (record { sound = R; looks = λ y. refl }) a k
