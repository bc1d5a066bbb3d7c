-- `dump_image::copy_words` meets its contract. The loop keeps that the first k words are those of the image.
use mathlib.Core.Path.{◌≡◌}
use mathlib.Core.List.{◌++◌}
use lib.ListN.{drop}
use Rattle.dump_image.specs.Image.{words_from}
use Rattle.dump_image.proofs.copy_words.Given as goal

abbrev pub invariant-loop-k : goal.invariant-loop-k
invariant-loop-k l = l.out ≡ words_from l.s l.at l.k ++ drop l.k l.initial.out
