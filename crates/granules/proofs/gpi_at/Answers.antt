-- `granules::gpi_at` meets its contract: a shift by four times i, and the low nibble.
use mathlib.Core.Path.{◌∙◌, ap}
use Rattle.gpi.specs.Gpi.{gpi_at}
use Rattle.granules.specs.Nibs.{nib}
use Rattle.granules.proofs.Store.{shifted-nib}
use Rattle.granules.proofs.gpi_at.Goals as goal

pub returns : goal.returns
returns c = c.ok.ensures.value ∙ c.try_from.ensures ∙ ap gpi_at (shifted-nib c.args.w c.i.inside.place ∙ ap (nib c.args.w) c.i.view_is)
