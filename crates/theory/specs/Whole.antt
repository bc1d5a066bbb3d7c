-- What chains over time. Agreement isn't kept by a finished set; being whole is, and it implies agreement. Of the crate `theory`.
use Rattle.std.specs.Prelude.{◌≡◌, List, ℕ, suc, ◌<◌, length}
use Rattle.theory.specs.Format.{Format, gpi}
use Rattle.theory.specs.Normal.{at, span, In}

-- one entry in two words: size and GPI, ignored bits aside
pub record Same (F : Format) (v w : ℕ) : Type 0 where
  pub size : F.size v ≡ F.size w
  pub gpi : gpi F v ≡ gpi F w

-- each contiguous entry's aligned range consists of that same entry throughout
pub record Whole (F : Format) (u : ℕ) (t : List ℕ) : Type 0 where
  pub whole : (i l : ℕ) → i < length t → F.size (at t i) ≡ suc l → (k : ℕ) → In (span u l) i k → Same F (at t k) (at t i)
