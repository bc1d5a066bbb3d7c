-- Laws of `l1`: a contiguous word that has a size reads its GPI, and is matched by its GPI, whatever its size.
use mathlib.Core.Path.{◌≡◌, refl, ap, ◌∙◌}
use Prim.Native.Nat.{ℕ, ◌/◌, ◌%◌, ◌≤◌}
use borrow.Author.Tests.{eq-eqb, ne_eqb}
use Rattle.std.specs.Prelude.{Bool, true, false, None, Option, Some}
use Rattle.gpi.specs.declared.Gpi.{Gpi}
use Rattle.gpi.specs.declared.Size.{Size}
use Rattle.gpi.specs.Gpi.{num, gpi_at, known_at}
use Rattle.gpi.proofs.Rules.{gpi-num, named, unnamed}
use Rattle.l1.specs.declared.L1Entry.{L1Entry}
use Rattle.l1.specs.L1.{contiguous_of, read_of, read_at, match_of, match_at}
use Rattle.l1.proofs.Entries.{l1_asked, l1_unsized, l1_sized}

module _ (w : ℕ) (t : w % 16 ≡ 1) (z : 256 ≤ w % 1024) where
  pub sized_reads : (i : ℕ) → read_at w i ≡ gpi_at (w / 16 % 16)
  sized_reads i = ap (λ (e : Option L1Entry). read_of e w i) (l1_sized w t z).1 ∙ go (gpi_at (w / 16 % 16)) (l1_sized w t z).0
    where
      go : (x : Option Gpi) (s : Size) → read_of (contiguous_of x (Some s)) w i ≡ x
      go (Some g) s = refl
      go None s = refl

  module _ (g : Gpi) where
    said : (x : Option Gpi) → gpi_at (w / 16 % 16) ≡ x → match_at w g ≡ match_of (contiguous_of x (Some (l1_sized w t z).0)) w g
    said x e =
        ap (λ (n : Option L1Entry). match_of n w g) ((l1_sized w t z).1 ∙ ap (λ (y : Option Gpi). contiguous_of y (Some (l1_sized w t z).0)) e)

    pub sized_hit : w / 16 % 16 ≡ num g → match_at w g ≡ Some true
    sized_hit e = said (Some g) (ap gpi_at e ∙ gpi-num g) ∙ ap (λ (b : Bool). Some b) (eq-eqb (num g) (num g) refl)

    pub sized_miss : (w / 16 % 16 ≡ num g → ⊥) → known_at (w / 16 % 16) ≡ true → match_at w g ≡ Some false
    sized_miss ne k =
        named _ _ k (λ h e. said (Some h) (ap gpi_at e ∙ gpi-num h) ∙ ap (λ (b : Bool). Some b) (ne_eqb (num h) (num g) (λ p. ne (e ∙ p))))

    pub sized_unknown : known_at (w / 16 % 16) ≡ false → match_at w g ≡ None
    sized_unknown k = said None (unnamed _ k)

-- what `read` and `matches_gpi` are proved by
pub ruleset reads = (l1_asked, l1_unsized, sized_reads)

pub ruleset matches = (l1_asked, l1_unsized, sized_hit, sized_miss, sized_unknown)
