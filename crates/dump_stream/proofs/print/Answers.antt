-- The bytes that a chunk wrote are in the buffer; and a chunk that is not the last goes no further than 2^52.
use Rattle.std.proofs.Common.{◌≤◌, ◌^◌, arith, sym}
use Rattle.std.proofs.lemmas.List.{length-take-le}
use Rattle.dump_text.proofs.Stream.{written_inside, low_next}
use Rattle.dump_stream.proofs.print.Goals as goal

pub slice_bounds-write_all-end : goal.slice_bounds-write_all-end
slice_bounds-write_all-end g c = written_inside _ _ _ _ _ c.dump_chunk-c.ensures

pub slice_bounds-write_all-end-in-loop-at : goal.slice_bounds-write_all-end-in-loop-at
slice_bounds-write_all-end-in-loop-at g c =
    sym (length-take-le c.dump_chunk-c.result.written _ (written_inside _ _ _ _ _ c.dump_chunk-c.ensures))

pub loop-at-smaller : goal.loop-at-smaller
loop-at-smaller g c =
    let low : c.dump_chunk-c.result.next ≤ 2 ^ 52 = low_next _ _ _ _ _ c.dump_chunk-c.ensures c.if-c.false in
    omega (arith, low, c.if-c-at.false)
