-- `dump_text::told_chunk` meets its contract.
use mathlib.Core.Path.{refl}
use native.Mathlib.Omega.{arith}
use Rattle.dump_lines.specs.Lines.{told}
use Rattle.dump_text.specs.Chunks.{step, one_step}
use Rattle.dump_text.proofs.Walk.{chunk_end, chunk_full, chunk_more}
use Rattle.dump_text.proofs.Steps.{one_here, one_end}
use Rattle.dump_text.proofs.told_chunk.Goals as goal

pub returns-then-at-ne0 : goal.returns-then-at-ne0
returns-then-at-ne0 c = chunk_end _ _ _ _ (one_end _ _ c.if-at-ne0.true)

pub returns-then-out-told_len : goal.returns-then-out-told_len
returns-then-out-told_len c =
    let a = c.args in
    let e = c.told_len.ensures in
    chunk_full _ _ _ _ (step (told a.what.now a.n) 1) _ (one_here _ _ c.if-at-ne0.false) (omega arith)

pub returns : goal.returns
returns c =
    let a = c.args in
    let e = c.told_len.ensures in
    let b = told a.what.now a.n in
    chunk_more (one_step b) a.at 0 a.out.now (step b 1) (one_here b _ c.if-at-ne0.false)
    (omega arith) (omega arith) c.put_told.ensures (chunk_end (one_step b) 1 _ _ refl)
