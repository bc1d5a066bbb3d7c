-- `granules::granule` meets its contract: the fold from the last GPI to the first is the word.
use mathlib.Core.Path.{◌≡◌, ◌∙◌}
use mathlib.Core.List.{reverse}
use native.Mathlib.Omega.{arith}
use borrow.Author.Rules.{rules}
use Rattle.std.specs.List.{fold}
use Rattle.granules.proofs.Packed.{below, packed}
use Rattle.granules.proofs.granule.Goals as goal

pub returns : goal.returns
returns c =
    let e : c.fold.result ≡ fold below 0 (reverse c.args.gpis) = search rules in
    e ∙ packed c.args.gpis (omega arith)
