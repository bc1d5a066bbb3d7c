-- `dump_runs::Opened::next_run` meets its contract.
use mathlib.Core.Path.{◌≡◌, sym, ap, ◌∙◌}
use native.Mathlib.Omega.{arith}
use Rattle.dump_runs.specs.declared.Opened.{Opened}
use Rattle.dump_runs.specs.Runs.{total}
use Rattle.dump_runs.proofs.Near.{pps_most}
use Rattle.dump_runs.proofs.Answers.{differs-true, differs-false}
use Rattle.dump_runs.proofs.Walk.{start-run, more_run, end_run, last_run}
use Rattle.dump_runs.proofs.Opened.next_run.Goals as goal

pub pow2-end-requires : goal.pow2-end-requires
pow2-end-requires c = let m = pps_most _ _ c.args.self.now.open in omega arith

pub loop-last-init : goal.loop-last-init
loop-last-init c =
    let p = c.piece_at-first.ensures in
    record {
      up = p.from;
      inside = p.inside;
      answer = p.answer ∙ sym (p.same _ p.from (omega arith));
      runs = start-run _ _ _ _ c.requires.a_bound p;
    }

pub loop-last-preserved : goal.loop-last-preserved
loop-last-preserved c =
    let l = c.loop-last.invariant in
    let e = c.pow2-end.ensures in
    let q = c.piece_at-next.ensures in let f = q.from in let i = q.inside in
    let u = l.up in
    let z : c.piece_at-first.result.answer ≡ c.piece_at-next.result.answer = sym (differs-false _ _ (sym c.ne.ensures ∙ c.if-ne.false)) in
    record {
      up = omega arith;
      inside = i;
      answer = z ∙ q.answer ∙ sym (q.same _ f (omega arith));
      runs = l.runs ∙ more_run _ _ _ _ _ (omega arith) q (sym z ∙ l.answer);
    }

pub returns-then-ne : goal.returns-then-ne
returns-then-ne c =
    let l = c.loop-last.invariant in
    let e = c.pow2-end.ensures in
    end_run _ _ _ _ _ l.up (omega arith) l.answer l.runs c.piece_at-next.ensures
    (differs-true _ _ (sym c.ne.ensures ∙ c.if-ne.true))

pub returns-after-loop-last : goal.returns-after-loop-last
returns-after-loop-last c =
    let l = c.loop-last.invariant in
    let e = c.pow2-end.ensures ∙ ap (λ (o : Opened). total o.widths) c.self.view_is in
    last_run _ _ _ _ l.up l.inside (omega arith) l.answer l.runs
