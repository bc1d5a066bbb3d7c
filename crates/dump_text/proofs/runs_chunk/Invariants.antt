-- What `dump_text::runs_chunk`'s loop keeps: whatever chunks the rest chunks the whole.
use mathlib.Core.Path.{◌≡◌}
use mathlib.Core.List.{List}
use Prim.Native.Nat.{ℕ, ◌≤◌, ◌<◌, ◌-◌, ◌+◌}
use lib.ListN.{length}
use Rattle.gpt.specs.Lookup.{lookup_of}
use Rattle.dump_runs.specs.Opened.{lent_of}
use Rattle.dump_runs.specs.Runs.{total}
use Rattle.dump_text.specs.declared.Chunk.{Chunk}
use Rattle.dump_text.specs.Chunks.{open_steps, Chunked}
use Rattle.dump_text.proofs.runs_chunk.Given as goal

abbrev pub invariant-loop-next : goal.invariant-loop-next
invariant-loop-next l = record {
  filled : l.k ≤ length l.out;
  long : length l.out ≡ length l.initial.out;
  past : 0 < l.next;
  whole : (o' : List ℕ) (r : Chunk) → Chunked (open_steps (lookup_of (lent_of l.t)) l.t.widths) l.next l.k l.out o' r
      → Chunked (open_steps (lookup_of (lent_of l.t)) l.t.widths) l.at l.filled l.initial.out o' r;
}

abbrev pub decreases-loop-next : goal.decreases-loop-next
decreases-loop-next l = total l.t.widths + 1 - l.next
