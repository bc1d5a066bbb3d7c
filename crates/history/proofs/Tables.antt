-- A table laid in the place of an address's: the tables stay apart, and those known to be whole are, if it is.
use mathlib.Core.Path.{◌≡◌, sym, ap, ◌∙◌, subst}
use mathlib.Core.Logic.{◌⊎◌, inl, inr}
use mathlib.Core.Bool.{Bool, true}
use mathlib.Core.List.{List}
use Prim.Native.Nat.{ℕ, ◌+◌, ◌-◌, ◌*◌, ◌≤◌, ◌<◌}
use native.Mathlib.Decide.{ℕ_discrete, dec_lt}
use native.Mathlib.Omega.{arith}
use lib.Dec.{lit<}
use lib.ListN.{length}
use lib.Pow.{pow_pos}
use Rattle.std.specs.Prelude.{Ok, Some}
use Rattle.gpi.specs.declared.Size.TheVariants.{MB2}
use Rattle.pa.specs.declared.PA.{PA}
use Rattle.pa.specs.Pa.{pa}
use Rattle.theory.specs.Arena.{table_at}
use Rattle.theory.specs.Whole.{Whole}
use Rattle.theory.specs.Set.{Agrees}
use Rattle.theory.proofs.Arena.{length-table, table_other}
use Rattle.theory.proofs.Whole.{whole_agrees}
use Rattle.l0.specs.declared.L0Entry.TheVariants.{Table}
use Rattle.config.specs.declared.Widths.{Widths}
use Rattle.config.specs.Fields.{configured_of}
use Rattle.config.specs.Index.{l0_index, l1_words, l1_index, size_words}
use Rattle.config.specs.Format.{format_of}
use Rattle.config.proofs.Format.{format_laws}
use Rattle.config.proofs.Geometry.{words_least, l1_in}
use Rattle.resolve.specs.declared.Site.{Site}
use Rattle.resolve.specs.Lent.{Lent, lay_in}
use Rattle.resolve.proofs.Found.{Found, lay_length, lay_table}
use Rattle.cut_and_mend.specs.Demand3.{TableAt, Holds, Ready}
use Rattle.cut_and_mend.proofs.Looks.{table_of}
use Rattle.history.specs.History.{Sound}

-- two tables of n words, of which no word is one of both
apart_of : (n o p : ℕ) → 0 < n → ((k : ℕ) → o ≤ k → k < o + n → p ≤ k → k < p + n → ⊥) → (o + n ≤ p) ⊎ (p + n ≤ o)
apart_of n o p z d = go (dec_lt p (o + n)) (dec_lt o (p + n))
  where
    go : Dec (p < o + n) → Dec (o < p + n) → (o + n ≤ p) ⊎ (p + n ≤ o)
    go (no a) b = inl (omega arith)
    go (yes a) (no b) = inr (omega arith)
    go (yes a) (yes b) = higher (dec_lt o p)
      where
        higher : Dec (o < p) → (o + n ≤ p) ⊎ (p + n ≤ o)
        higher (yes c) = absurd (d p (omega arith) a (omega arith) (omega arith))
        higher (no c) = absurd (d o (omega arith) (omega arith) (omega arith) b)

module _ {q : Lent} {marks : ℕ → Bool} {x : ℕ} {w : Widths} {s : Site} (K : Sound w q marks) (f : Found q x w s) where
  -- ---- a table that is known to be whole is ready for a set

  -- the configuration's widths are w
  same : (v : Widths) → configured_of q.config ≡ Ok v → w ≡ v
  same v e = let k : Ok w ≡ Ok v = sym f.configured ∙ e in cc

  unit_least : 0 < size_words w MB2
  unit_least = words_least w f.listed MB2 (lit< tt)

  pub sound_ready : marks (l0_index w x) ≡ true → Ready q x
  sound_ready m =
      record {
        apart = λ v e. subst Apart-of (same v e) (λ o d p k. K.apart.apart (l0_index w x) d o p k);
        agree = λ v e. subst Agrees-of (same v e) (λ o a.
            whole_agrees (format_of q.config) (format_laws q.config) (size_words w MB2) unit_least (table_at o (l1_words w) q.arena)
            (K.whole (l0_index w x) o a m) (l1_index w x) (rw (length-table o (l1_words w) q.arena a.inside) (l1_in w f.listed x)));
      }
    where
      Apart-of : Widths → Type 0
      Apart-of v = (o d p k : ℕ) → TableAt v q (l0_index v x) o → TableAt v q d p → Holds v o k → Holds v p k → l0_index v x ≡ d

      Agrees-of : Widths → Type 0
      Agrees-of v =
          (o : ℕ) → TableAt v q (l0_index v x) o
          → Agrees (format_of q.config) (size_words v MB2) (table_at o (l1_words v) q.arena) (l1_index v x)

  -- ---- T in its place

  module _ (T : List ℕ) (len : length T ≡ s.words) where
    -- an entry's table lies where it lay
    lay_at : {e o : ℕ} → TableAt w (lay_in q s T) e o → TableAt w q e o
    lay_at a = record { entry = a.entry; names = a.names; inside = omega (arith, a.inside, lay_length f T len) }

    -- that of x's entry is at the site's start
    lay-own : {o : ℕ} → TableAt w q (l0_index w x) o → o ≡ s.start
    lay-own {o} a =
        let k : Some (Table (pa (q.base + 8 * o))) ≡ Some (Table (pa (q.base + 8 * s.start))) = sym a.names ∙ f.entry in
        let k : pa (q.base + 8 * o) ≡ pa (q.base + 8 * s.start) = cc in
        let k : q.base + 8 * o ≡ q.base + 8 * s.start = ap (λ (a : PA). a.0) k in
        omega arith

    -- any other stays as it was
    lay-other : {e o : ℕ} → TableAt w q e o → (e ≡ l0_index w x → ⊥)
        → table_at o (l1_words w) (lay_in q s T).arena ≡ table_at o (l1_words w) q.arena
    lay-other {e} {o} a d =
        table_other s.start s.words q.arena f.sited.fits T len o (l1_words w) a.inside
        (rw f.words
        (apart_of (l1_words w) s.start o (pow_pos _)
        (λ k i j h l. d (K.apart.apart e (l0_index w x) o s.start k a (table_of f) (record { from = h; to = l })
        (record { from = i; to = j })))))

    -- Marks that keep to the tables known to be whole, and to T where it is whole, are sound.
    pub lay_sound : (n : ℕ → Bool) → (n (l0_index w x) ≡ true → Whole (format_of q.config) s.unit T)
        → ((e : ℕ) → (e ≡ l0_index w x → ⊥) → n e ≡ true → marks e ≡ true) → Sound w (lay_in q s T) n
    lay_sound n own others =
        record {
          configured = K.configured;
          apart = record { apart = λ e d o p k a b. K.apart.apart e d o p k (lay_at a) (lay_at b) };
          whole = λ e o a m. go e o (lay_at a) m (ℕ_discrete e (l0_index w x));
        }
      where
        go : (e o : ℕ) → TableAt w q e o → n e ≡ true → Dec (e ≡ l0_index w x)
            → Whole (format_of q.config) (size_words w MB2) (table_at o (l1_words w) (lay_in q s T).arena)
        go e o a m (yes d) =
            let p : o ≡ s.start = lay-own (subst (λ (k : ℕ). TableAt w q k o) d a) in
            rw (p, ← f.words, ← f.unit, lay_table f T len) (own (rw d at m))
        go e o a m (no d) = rw (lay-other a d) (K.whole e o a (others e d m))
