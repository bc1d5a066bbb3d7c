-- Document 01, "What a call is lent": what the struct `GranuleProtection` lends together with an arena. Of the crate `gpt`.
use Rattle.std.specs.Prelude.{List, ℕ}
use Rattle.resolve.specs.Lent.{Lent, lent}
use Rattle.gpt.specs.declared.GranuleProtection.{GranuleProtection}

abbrev pub lends : GranuleProtection → List ℕ → Lent
lends p A = lent p.config p.l0.now A p.base.0
