-- Crate mend_table. The steps of `mend_region` and `mend_parts` over plain tables: how a range is mended as it is judged, and how ranges
-- follow one another.
use mathlib.Core.Path.{◌≡◌, refl, sym, ap, ◌∙◌}
use mathlib.Core.Bool.{Bool, true, false, ◌&&◌, not, cond}
use mathlib.Core.List.{List, [], ◌∷◌}
use Prim.Native.Nat.{ℕ, zero, suc, ◌+◌, ◌*◌, ◌/◌, ◌<◌, ◌≤◌}
use native.Mathlib.Nat.{add-mul, one-mul, zero-mul, zero-add, mul-le-mul_right, div-mul-le_self, mul-div_cancel}
use native.Mathlib.Omega.{arith}
use lib.Dec.{eqb, ltb}
use lib.ListN.{length, set, take, length-take, length-drop}
use lib.Seq.{length-take-le}
use borrow.Rule.Slice.PartMut.{mid_of, post_of, put_mid, put_same}
use Rattle.std.proofs.Common.{Option}
use Rattle.std.proofs.lemmas.List.{set-get_or}
use Rattle.gpi.specs.declared.Size.{Size}
use Rattle.theory.specs.Format.{Format, Laws}
use Rattle.theory.specs.Normal.{at, span, normal_up_to}
use Rattle.theory.specs.Inner.{Walk, walked, step, mend_walk, Goes}
use Rattle.theory.proofs.MendWalk.{goes_on, goes_ahead, mend_walk-full, after, mended}
use Rattle.l1.specs.Arm.{arm, level_of}
use Rattle.mend_table.specs.declared.Judged.{Judged}
use Rattle.mend_table.specs.declared.Judged.TheVariants.{Words, Parts}
use Rattle.mend_table.specs.declared.Stores.{Stores}
use Rattle.mend_table.specs.Mend.{Regions, Repaired}
use Rattle.mend_table.specs.Inner.{wanted_at, Ranges, Judges, Mends}
use Rattle.mend_table.proofs.Slices.{goes_part}
use Rattle.mend_table.proofs.Judging.{range_pos, part_of}

-- only the words of the stretch count: a walk towards others that are the same there is the same walk
goes_same : (k : ℕ) (t : List ℕ) (c : ℕ) (t₂ : List ℕ) (c₂ : ℕ) (g h : ℕ → ℕ) (m : ℕ) → ((i : ℕ) → i < m → g i ≡ h i)
    → Goes k h 0 m t c t₂ c₂ → Goes k g 0 m t c t₂ c₂
unfolding mend_walk
goes_same k t c t₂ c₂ g h m e w = w ∙ sym (go m e)
  where
    go : (m : ℕ) → ((i : ℕ) → i < m → g i ≡ h i) → mend_walk k g 0 m (walked t c) ≡ mend_walk k h 0 m (walked t c)
    go zero e = refl
    go (suc m) e = rw (go m (λ i b. e i (omega arith)), zero-add m, e m (omega arith)) refl

-- with no store left a walk stores nothing
pub ruleset spent = (mend_walk-full)

-- ---- a word more: the walk's turn, by what `put` makes of the word alone

module _ (k i : ℕ) (t : List ℕ) (c w v c₂ : ℕ) where
  put_there : walked (v ∷ []) c₂ ≡ step k (λ _. w) 0 (walked (at t i ∷ []) c) → walked (set t i v) c₂ ≡ step k (λ _. w) i (walked t c)
  put_there e = go (ltb c k && not (eqb (at t i) w)) e
    where
      go : (d : Bool) → walked (v ∷ []) c₂ ≡ cond {A = Walk} d (walked (w ∷ []) (suc c)) (walked (at t i ∷ []) c)
          → walked (set t i v) c₂ ≡ cond {A = Walk} d (walked (set t i w) (suc c)) (walked t c)
      go true e = rw (ap (λ (s : Walk). at s.table 0) e, ap (λ (s : Walk). s.made) e) refl
      go false e = rw (ap (λ (s : Walk). at s.table 0) e, ap (λ (s : Walk). s.made) e, set-get_or t i 0) refl

  pub word_more : (f : ℕ → ℕ) (t₀ : List ℕ) (c₀ : ℕ) → Goes k (λ j. f (at t₀ j)) 0 i t₀ c₀ t c → w ≡ f (at t i)
      → walked (v ∷ []) c₂ ≡ step k (λ _. w) 0 (walked (at t i ∷ []) c) → Goes k (λ j. f (at t₀ j)) 0 (i + 1) t₀ c₀ (set t i v) c₂
  word_more f t₀ c₀ g e s =
      goes_on k (λ j. f (at t₀ j)) 0 i t₀ c₀ t c g w
      (e ∙ ap f (goes_ahead k (λ j. f (at t₀ j)) 0 i t₀ c₀ t c g i (omega arith)) ∙ rw (zero-add i) refl) (set t i v) c₂
      (rw (zero-add i) (put_there s))

-- ---- ranges, one after another

-- range p, of n words, lies in the table
module _ {n : ℕ} (p k : ℕ) (t₁ : List ℕ) (ek : k ≡ n) (few : p < length t₁ / n) where
  part_in : p * n + n ≤ length t₁
  part_in =
      let h : (p + 1) * n ≤ length t₁ / n * n = mul-le-mul_right n (omega arith) in
      let h' : length t₁ / n * n ≤ length t₁ = div-mul-le_self (length t₁) n in omega (arith, simp (add-mul, one-mul) at h)

  pub part_long : length (mid_of (p * n) k t₁) ≡ n
  part_long = simp (length-take, length-drop) (omega (arith, part_in))

module _ (F : Format) {l n : ℕ} {t : List ℕ} {b : Stores} where
  pub none_yet : Mends F l n (0 * n) t b t b
  unfolding mend_walk
  none_yet = record { limit = refl; goes = λ u f. rw (zero-mul n) refl }

  -- range p is mended as a table of its own
  pub one_more : (p k : ℕ) (t₁ s₂ : List ℕ) {b₁ b₂ : Stores} → Laws F → l < 3 → k ≡ n → p < length t₁ / n → Mends F l n (p * n) t b t₁ b₁
      → Mends F l (length (mid_of (p * n) k t₁)) (length (mid_of (p * n) k t₁)) (mid_of (p * n) k t₁) b₁ s₂ b₂
      → Mends F l n ((p + 1) * n) t b (put_mid (p * n) k t₁ s₂) b₂
  one_more p k t₁ s₂ {b₁} {b₂} L low ek there f g =
      let ex : length (take (p * n) t₁) ≡ p * n = length-take-le (p * n) t₁ (omega (arith, part_in p k t₁ ek there)) in
      let es : length (mid_of (p * n) k t₁) ≡ n = part_long p k t₁ ek there in
      record {
        limit = g.limit ∙ f.limit;
        goes = λ u q.
            let here : Goes b₁.limit (normal_up_to F u (at (put_mid (p * n) k t₁ (mid_of (p * n) k t₁))) (suc l)) (length (take (p * n) t₁))
            (length (mid_of (p * n) k t₁)) (put_mid (p * n) k t₁ (mid_of (p * n) k t₁)) b₁.made (put_mid (p * n) k t₁ s₂) b₂.made
            = goes_part F u l p (take (p * n) t₁) (mid_of (p * n) k t₁) (post_of (p * n) k t₁) s₂ b₁.limit b₁.made b₂.made q.some
            (ex ∙ ap (λ (m : ℕ). p * m) q.size) (es ∙ q.size) (g.goes u (record { some = q.some; size = es ∙ q.size })) in
            rw (add-mul p 1 n, one-mul n)
            (after F L u q.some b.limit l 0 (p * n) n t b.made t₁ b₁.made (put_mid (p * n) k t₁ s₂) b₂.made low (f.goes u q)
            (rw (zero-add (p * n)) (rw (put_same (p * n) k t₁, ex, es, f.limit) at here)));
      }

  pub all_made : (p : ℕ) {t₂ : List ℕ} {b₂ : Stores} → Ranges l n t → length t / n ≤ p → p ≤ length t / n → Mends F l n (p * n) t b t₂ b₂
      → Mends F l n (length t) t b t₂ b₂
  all_made p h lo hi g =
      let q : length t / n ≡ h.count = rw (h.whole, mul-div_cancel h.count (range_pos h)) refl in
      let e : p * n ≡ length t = ap (λ (m : ℕ). m * n) (omega (arith, q)) ∙ sym h.whole in rw e at g

-- ---- a range as it is judged

module _ (F : Format) {l : ℕ} (t : List ℕ) {b : Stores} (t₂ : List ℕ) {b₂ : Stores} {x : Judged} (j : Judges F l t x) where
  pub words_mended : (want : Option ℕ) → x ≡ Words want → b₂.limit ≡ b.limit
      → Goes b.limit (λ i. wanted_at F want (at t i)) 0 (length t) t b.made t₂ b₂.made → Mends F l (length t) (length t) t b t₂ b₂
  words_mended want q e w =
      let j' : Judges F l t (Words want) = rw q at j in
      record {
        limit = e;
        goes = λ u f.
            goes_same b.limit t b.made t₂ b₂.made (normal_up_to F u (at t) (suc l)) (λ i. wanted_at F want (at t i)) (length t)
            (j'.words u f) w;
      }

  pub parts_mended : (s : Size) → x ≡ Parts s → Mends F (level_of s) (length t / 16) (length t) t b t₂ b₂
      → Mends F l (length t) (length t) t b t₂ b₂
  parts_mended s q w =
      let j' : Judges F l t (Parts s) = rw q at j in
      record {
        limit = w.limit;
        goes = λ u f.
            goes_same b.limit t b.made t₂ b₂.made (normal_up_to F u (at t) (suc l)) (normal_up_to F u (at t) (suc (level_of s))) (length t)
            (j'.words u f) (w.goes u (part_of f j'.below));
      }

-- a table of whole regions
pub whole_mended : {u k n : ℕ} {t t₂ : List ℕ} {b₂ : Stores} → Regions u t → n ≡ span u 2
    → Mends arm 2 n (length t) t (record { limit = k; made = 0 }) t₂ b₂ → Repaired u k t t₂ b₂.made
whole_mended {u} {k} {t = t} {t₂} {b₂} p e h =
    let m = mended arm u k t t₂ b₂.made (h.goes u (record { some = p.some; size = e })) in record { table = m.0; count = m.1 }
