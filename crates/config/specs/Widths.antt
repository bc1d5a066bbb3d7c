-- The widths of a configuration that was taken, and what holds of them: the value of the struct `Widths`, and its invariant. Crate `config`.
use Rattle.std.specs.Prelude.{ℕ, ◌≤◌}

-- address bits: of all protected addresses, of a granule, of what an L0 entry speaks for
pub record Bits : Type 0 where
  pub pps : ℕ
  pub pgs : ℕ
  pub l0gptsz : ℕ

-- what holds of the widths of every configuration that is taken (`listed-widths`), and all that the index rules ask of them
pub record Listed (w : Bits) : Type 0 where
  pub pgs_least : 12 ≤ w.pgs
  pub pgs_most : w.pgs ≤ 16
  pub l0_least : 30 ≤ w.l0gptsz
  pub l0_most : w.l0gptsz ≤ 39
  pub wide : w.l0gptsz ≤ w.pps
  pub pps_most : w.pps ≤ 52
