-- `dump_image::number` meets its contract. The loop keeps that v is the number of the bytes so far.
use mathlib.Core.Path.{◌≡◌}
use Prim.Native.Nat.{◌<◌, ◌^◌}
use Rattle.dump_image.specs.Image.{big_endian}
use Rattle.dump_image.proofs.number.Given as goal

abbrev pub invariant-loop-b : goal.invariant-loop-b
invariant-loop-b l = (l.v ≡ big_endian l.s l.at l.b-index) × (l.v < 256 ^ l.b-index)
