-- Mends one after the other: document 01, "a cut mend is one so limited", and demand 3's "also if mends are cut anywhere and run again".
use Rattle.std.specs.Prelude.{◌≡◌, List, [], ◌∷◌, ℕ}
use Rattle.config.specs.declared.Widths.{Widths}
use Rattle.resolve.specs.Lent.{Lent, Names}
use Rattle.mend.specs.Outcome.{mend_of, mended_number}

-- a mend: an address that names the table, and a store limit
pub record Mend : Type 0 where
  pub address : ℕ
  pub limit : ℕ

-- each names the table of x
abbrev pub AllName : Widths → ℕ → List Mend → Type 0
AllName w x [] = Unit {0}
AllName w x (m ∷ ms) = Names w x m.address × AllName w x ms

-- these mends, each lent what the one before it left, answer 0 each, and the last leaves r
abbrev pub Mending : Lent → List Mend → Lent → Type 0
Mending q [] r = q ≡ r
Mending q (m ∷ ms) r = (mended_number (mend_of q m.address m.limit).answer ≡ 0) × Mending (mend_of q m.address m.limit).left ms r
