-- `dump_image::copy_words` meets its contract. The loop keeps that the first k words are those of the image.
use native.Mathlib.Omega.{arith}
use Rattle.dump_image.proofs.Numbers.{words_none, words_more}
use Rattle.dump_image.proofs.copy_words.Goals as goal

pub loop-k-init : goal.loop-k-init
loop-k-init c = words_none _ _ _

pub loop-k-preserved : goal.loop-k-preserved
loop-k-preserved c = words_more _ _ _ _ _ (omega arith) c.loop-k.invariant c.number.ensures.0
