-- `dump_text::runs_chunk` meets its contract.
use mathlib.Core.Path.{◌≡◌, ap, ◌∙◌}
use native.Mathlib.Omega.{arith}
use Prim.Native.Nat.{ℕ, ◌≤◌, ◌-◌, ◌+◌, ◌^◌}
use lib.ListN.{length}
use lib.Pow.{pow_mono}
use Rattle.dump_lines.specs.declared.Run.{Run}
use Rattle.dump_lines.specs.Lines.{line, name}
use Rattle.dump_lines.proofs.Bytes.{put-length}
use Rattle.dump_lines.proofs.Lengths.{length-line}
use Rattle.dump_runs.specs.declared.Opened.{Opened}
use Rattle.dump_runs.specs.Runs.{total}
use Rattle.dump_runs.proofs.Near.{pps_most}
use Rattle.dump_text.specs.Chunks.{run_step}
use Rattle.dump_text.proofs.Walk.{chunk_end, chunk_full, chunk_more}
use Rattle.dump_text.proofs.Steps.{run-leads, runs-end}
use Rattle.dump_text.proofs.runs_chunk.Goals as goal

-- the line fits
fits : (r : Run) (k n m : ℕ) → m ≡ 29 + length (name r.answer) → k ≤ n → m ≤ n - k → k + length (line r) ≤ n
fits r k n m e h i = let l = length-line r in omega arith

pub pow2-end-requires : goal.pow2-end-requires
pow2-end-requires c = let m = pps_most _ _ c.args.t.now.open in omega arith

pub returns-then-out-k : goal.returns-then-out-k
returns-then-out-k c =
    let l = c.loop-next.invariant in
    let r = c.next_run-r in
    let n = length-line r.result in
    let k = c.line_len.ensures in
    l.whole _ _ (chunk_full _ _ _ _ (run_step r.result) _ (run-leads _ _ _ _ l.past r.ensures).is (omega arith))

pub put_line-k-requires : goal.put_line-k-requires
put_line-k-requires c = fits c.next_run-r.result _ _ _ c.line_len.ensures c.loop-next.invariant.filled c.if-out-k.false

pub overflow_add-next : goal.overflow_add-next
overflow_add-next c =
    let m = pps_most _ _ c.args.t.now.open in
    let t : total c.args.t.now.widths ≤ 2 ^ 52 = pow_mono m in
    let h = c.next_run-r.ensures.inside in omega arith

pub loop-next-preserved : goal.loop-next-preserved
loop-next-preserved c =
    let l = c.loop-next.invariant in
    let r = c.next_run-r in
    let p = c.put_line-k.ensures in
    let f = fits r.result _ _ _ c.line_len.ensures l.filled c.if-out-k.false in
    let m = put-length p in
    let q = p.place in
    record {
      filled = omega arith;
      long = m ∙ l.long;
      past = omega arith;
      whole = λ o' x z. l.whole o' x
          (chunk_more _ _ _ _ (run_step r.result) (run-leads _ _ _ _ l.past r.ensures).is l.filled (omega arith) p z);
    }

pub returns : goal.returns
returns c =
    let e = c.pow2-end.ensures ∙ ap (λ (o : Opened). total o.widths) c.t.view_is in
    c.loop-next.invariant.whole _ _ (chunk_end _ _ _ _ (runs-end _ c.args.t.now.widths c.loop-next.next (omega arith)))
