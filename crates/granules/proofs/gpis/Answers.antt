-- `granules::gpis` meets its contract: the GPI at each index is that of the nibble there.
use borrow.Author.Rules.{rules}
use Rattle.granules.proofs.Packed.{gpis_made}
use Rattle.granules.proofs.gpis.Goals as goal

pub returns : goal.returns
returns c = gpis_made _ _ c.args.w c.from_fn.result c.from_fn.ensures.items (λ i y q k. (search rules, search rules))
