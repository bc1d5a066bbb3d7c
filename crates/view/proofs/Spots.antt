-- Laws of `view`: a spot lies in its table, and in the L1 table of an address it is the word and the granule that a
-- lookup reads.
use mathlib.Core.Path.{◌≡◌, refl, sym, ap, ap₂, ◌∙◌, subst}
use mathlib.Core.Bool.{Bool, true, false, cond, ◌&&◌}
use mathlib.Core.List.{List}
use Prim.Native.Nat.{ℕ, zero, suc, ◌+◌, ◌-◌, ◌/◌, ◌%◌, ◌<◌, ◌^◌}
use native.Mathlib.Omega.{arith}
use borrow.Author.Tests.{lt-ltb, ltb-true}
use lib.Dec.{ltb}
use lib.ListN.{length, get_or}
use lib.Pow.{shr-shr, field, mod-mod-pow}
use Rattle.std.specs.Prelude.{Option, Some, None, Ok, Err}
use Rattle.std.proofs.lemmas.Option.{cond_some}
use Rattle.gpi.proofs.Table.{apart, and_both}
use Rattle.l1.specs.L1.{read_at}
use Rattle.config.specs.declared.Config.{Config}
use Rattle.config.specs.declared.ConfigError.TheVariants.{GptNotInitialized, InvalidConfiguration}
use Rattle.config.specs.declared.Widths.{Widths}
use Rattle.config.specs.Fields.{pps_width, pgs_width, l0gptsz_width, listed, configured_of}
use Rattle.config.specs.Widths.{Listed}
use Rattle.config.specs.Index.{l1_words, l1_index, granule_index}
use Rattle.config.proofs.Geometry.{l1_in}
use Rattle.view.specs.Reads.{is_width, spot_of, held_by, held, held_at}

module _ (n width d : ℕ) where
  abbrev i₀ : ℕ
  i₀ = d / 2 ^ width / 16

  abbrev k₀ : ℕ
  k₀ = d / 2 ^ width % 16

  pub inside : is_width width ≡ true → i₀ < n → Some (i₀, k₀) ≡ spot_of n width d
  unfolding spot_of
  inside e h = rw (e, lt-ltb i₀ n h)

  -- a spot that was told lies in the table
  pub in_table : {i k : ℕ} → spot_of n width d ≡ Some (i, k) → i < n
  unfolding spot_of
  in_table {i} {k} e =
      let h = cond_some (is_width width && ltb i₀ n) (i₀, k₀) (i, k) e in
      let x : i₀ ≡ i = ap (λ (p : ℕ × ℕ). p.0) h.1 in
      subst (λ (m : ℕ). m < n) x (ltb-true i₀ n (and_both (is_width width) _ h.0).1)

-- ---- the granule width of a configuration that was taken is one that the view takes

listed-width : (n k : ℕ) → pgs_width n ≡ Some k → is_width k ≡ true
listed-width zero k e = let z : 12 ≡ k = cc in ap is_width (sym z)
listed-width (suc zero) k e = let z : 16 ≡ k = cc in ap is_width (sym z)
listed-width (suc (suc zero)) k e = let z : 14 ≡ k = cc in ap is_width (sym z)
listed-width (suc (suc (suc n))) k e = apart (cc)

abbrev made : ℕ → ℕ → ℕ → Widths
made p g l = record { pps = p; pgs = g; l0gptsz = l }

pub taken_width : (c : Config) (w : Widths) → configured_of c ≡ Ok w → is_width w.pgs ≡ true
unfolding configured_of
taken_width c w e = go (pps_width c.pps) (pgs_width c.pgs) refl (l0gptsz_width c.l0gptsz) c.gpc e
  where
    last : (p g l : ℕ) (b : Bool) → is_width g ≡ true → cond b (Err InvalidConfiguration) (Ok (made p g l)) ≡ Ok w → is_width w.pgs ≡ true
    last p g l true h e = apart (cc)
    last p g l false h e = let k : made p g l ≡ w = cc in subst (λ (v : Widths). is_width v.pgs ≡ true) k h

    go : (x y : Option ℕ) → pgs_width c.pgs ≡ y → (z : Option ℕ) (o : Bool)
        → listed x (λ p. listed y (λ g. listed z (λ l. cond o (cond (ltb p l) (Err InvalidConfiguration) (Ok (made p g l))) (Err GptNotInitialized))))
        ≡ Ok w → is_width w.pgs ≡ true
    go None y b z o e = apart (cc)
    go (Some p) None b z o e = apart (cc)
    go (Some p) (Some g) b None o e = apart (cc)
    go (Some p) (Some g) b (Some l) false e = apart (cc)
    go (Some p) (Some g) b (Some l) true e = last p g l (ltb p l) (listed-width c.pgs g b) e

-- ---- the spot of an address x in its L1 table, whose first address is the last multiple of 2^(L0GPTSZ bits): a lookup's word and granule

pub spot_of-address : (w : Widths) → Listed w → is_width w.pgs ≡ true → (x : ℕ)
    → spot_of (l1_words w) w.pgs (x % 2 ^ w.l0gptsz) ≡ Some (l1_index w x, granule_index w x)
spot_of-address w l e x =
    let d = x % 2 ^ w.l0gptsz in
    let i : d / 2 ^ w.pgs / 16 ≡ l1_index w x = shr-shr d w.pgs 4 in
    let p : w.l0gptsz ≡ w.l0gptsz - w.pgs + w.pgs = omega arith in
    let q : w.l0gptsz - w.pgs ≡ w.l0gptsz - w.pgs - 4 + 4 = omega arith in
    let y = x / 2 ^ w.pgs in
    let k : d / 2 ^ w.pgs % 16 ≡ granule_index w x =
    ap (λ (m : ℕ). m % 16) (ap (λ (n : ℕ). x % 2 ^ n / 2 ^ w.pgs) p ∙ field x (w.l0gptsz - w.pgs) w.pgs)
    ∙ ap (λ (n : ℕ). y % 2 ^ n % 16) q ∙ mod-mod-pow y (w.l0gptsz - w.pgs - 4) 4 in
    sym (inside (l1_words w) w.pgs d e (subst (λ (m : ℕ). m < l1_words w) (sym i) (l1_in w l x))) ∙ ap₂ (λ (m n : ℕ). Some (m, n)) i k

-- so the view holds there what that word reads at that granule
pub held-of_address : (w : Widths) → Listed w → is_width w.pgs ≡ true → (t : List ℕ) → length t ≡ l1_words w → (x : ℕ)
    → held_at t w.pgs (x % 2 ^ w.l0gptsz) ≡ held_by (read_at (get_or t (l1_index w x) 0) (granule_index w x))
held-of_address w l e t n x =
    ap (λ (m : ℕ). held t (spot_of m w.pgs (x % 2 ^ w.l0gptsz))) n ∙ ap (held t) (spot_of-address w l e x)
