-- `dump_stream::print` ends: each chunk goes on, and no further than 2^52.
use Rattle.std.proofs.Common.{◌-◌, ◌^◌}
use Rattle.dump_stream.proofs.print.Given as goal

abbrev pub decreases-loop-at : goal.decreases-loop-at
decreases-loop-at g l = 2 ^ 52 - l.at
