-- `granules::all_valid` meets its contract: the test by masks, of sixteen nibbles.
use Rattle.granules.specs.Nibs.{word}
use Rattle.granules.proofs.Masks.{masks}
use Rattle.granules.proofs.all_valid.Goals as goal

pub returns : goal.returns
unfolding word
returns c = masks 16 c.args.w
