-- What the widths of a configuration that was taken are, whatever its fields say. Crate `config`.
use mathlib.Core.Path.{◌≡◌, refl, sym, ◌∙◌, subst}
use mathlib.Core.Bool.{Bool, true, false, cond, ◌&&◌}
use mathlib.Core.List.{List, [], ◌∷◌}
use Prim.Native.Nat.{ℕ, ◌≤◌, ◌<◌}
use native.Mathlib.Decide.{dec_lt}
use native.Mathlib.Omega.{arith}
use borrow.Author.Tests.{ltb-false, leb-true}
use lib.Dec.{ltb, leb}
use lib.ListN.{length, get_or, get_or-eq_default}
use Rattle.std.specs.Prelude.{Err, None, Ok, Option, Some}
use Rattle.gpi.proofs.Table.{every, at, and_both}
use Rattle.config.specs.declared.Config.{Config}
use Rattle.config.specs.declared.Widths.{Widths}
use Rattle.config.specs.Fields.{pps_width, pgs_width, l0gptsz_width, listed, configured_of}
use Rattle.config.specs.Widths.{Listed}
use Rattle.config.specs.declared.ConfigError.TheVariants.{GptNotInitialized, InvalidConfiguration}

-- the width, where there is one, lies between two numbers
abbrev between : ℕ → ℕ → Option ℕ → Bool
between a b (Some n) = leb a n && leb n b
between a b None = true

-- a table's rule by one computed test: each of its widths lies between the two
module _ (t : List (Option ℕ)) (a b : ℕ) (e : every (λ k. between a b (get_or t k None)) (length t) ≡ true) where
  range : (n w : ℕ) → get_or t n None ≡ Some w → (a ≤ w) × (w ≤ b)
  range n w q = go (dec_lt n (length t))
    where
      go : Dec (n < length t) → (a ≤ w) × (w ≤ b)
      go (yes h) =
          let p = and_both (leb a w) (leb w b)
          (subst (λ (x : Option ℕ). between a b x ≡ true) q (at (λ k. between a b (get_or t k None)) (length t) e n h)) in
          (leb-true a w p.0, leb-true w b p.1)
      go (no h) =
          let p : ◌≡◌ {A = Option ℕ} None (Some w) = sym (get_or-eq_default t None (omega arith)) ∙ q in
          let z : ◌≡◌ {A = ℕ} 0 1 = cc in
          absurd (omega arith)

pps_range : (n w : ℕ) → pps_width n ≡ Some w → (32 ≤ w) × (w ≤ 52)
pps_range = range (Some 32 ∷ Some 36 ∷ Some 40 ∷ Some 42 ∷ Some 44 ∷ Some 48 ∷ Some 52 ∷ []) 32 52 refl

pgs_range : (n w : ℕ) → pgs_width n ≡ Some w → (12 ≤ w) × (w ≤ 16)
pgs_range = range (Some 12 ∷ Some 16 ∷ Some 14 ∷ []) 12 16 refl

l0gptsz_range : (n w : ℕ) → l0gptsz_width n ≡ Some w → (30 ≤ w) × (w ≤ 39)
l0gptsz_range =
    range (Some 30 ∷ None ∷ None ∷ None ∷ Some 34 ∷ None ∷ Some 36 ∷ None ∷ None ∷ Some 39 ∷ []) 30 39 refl

pub listed-widths : (c : Config) (w : Widths) → configured_of c ≡ Ok w → Listed w
unfolding configured_of
listed-widths c w e = go (pps_width c.pps) refl (pgs_width c.pgs) refl (l0gptsz_width c.l0gptsz) refl c.gpc e
  where
    none : {A : Type 0} → ◌≡◌ {A = ℕ} 0 1 → A
    none z = absurd (omega arith)

    taken : (p g l : ℕ) (b : Bool) → ltb p l ≡ b → (12 ≤ g) × (g ≤ 16) → (30 ≤ l) × (l ≤ 39) → p ≤ 52
        → cond b (Err InvalidConfiguration) (Ok (record { pps = p; pgs = g; l0gptsz = l })) ≡ Ok w → Listed w
    taken p g l true q x y z e = none (cc)
    taken p g l false q x y z e =
        let k : record { pps = p; pgs = g; l0gptsz = l } ≡ w = cc in
        subst Listed k record { pgs_least = x.0; pgs_most = x.1; l0_least = y.0; l0_most = y.1; wide = ltb-false p l q; pps_most = z }

    go : (x : Option ℕ) → pps_width c.pps ≡ x → (y : Option ℕ) → pgs_width c.pgs ≡ y → (z : Option ℕ) → l0gptsz_width c.l0gptsz ≡ z
        → (o : Bool)
        → listed x (λ p. listed y (λ g. listed z (λ l.
        cond o (cond (ltb p l) (Err InvalidConfiguration) (Ok (record { pps = p; pgs = g; l0gptsz = l }))) (Err GptNotInitialized)))) ≡ Ok w
        → Listed w
    go None a y b z d o e = none (cc)
    go (Some p) a None b z d o e = none (cc)
    go (Some p) a (Some g) b None d o e = none (cc)
    go (Some p) a (Some g) b (Some l) d false e = none (cc)
    go (Some p) a (Some g) b (Some l) d true e =
        taken p g l (ltb p l) refl (pgs_range c.pgs g b) (l0gptsz_range c.l0gptsz l d) (pps_range c.pps p a).1 e
