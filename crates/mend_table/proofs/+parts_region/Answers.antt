-- Crate mend_table: the cycle of calls {parts, region} meets its contracts.
use native.Mathlib.Omega.{arith}
use mathlib.Core.Path.{refl, ◌∙◌}
use lib.Dec.{eqb}
use Rattle.std.proofs.Common.{rules, tests}
use Rattle.std.proofs.lemmas.Iterator.{YieldsList-from_slice}
use Rattle.std.proofs.lemmas.Iterator.Search.{all_from_yields_List}
use Rattle.l1.specs.Arm.{arm}
use Rattle.mend_table.specs.Inner.{wanted_at}
use Rattle.mend_table.proofs.Judging.{range_pos, one_range, parts_lie, down}
use Rattle.mend_table.proofs.Checks.{none_yet, one_right, one_wrong, all_right, words_checked, parts_checked}
use Rattle.mend_table.proofs.+parts_region.Goals as goal

pub parts-chunks_exact-part-items-requires : goal.parts-chunks_exact-part-items-requires
parts-chunks_exact-part-items-requires t c = range_pos c.requires

pub parts-loop-part-init : goal.parts-loop-part-init
parts-loop-part-init t c =
    let i = c.into_iter-part-iterator.ensures.into_iter_gives in
    let e = c.chunks_exact-part-items.ensures in
    (rw (i, e.size) (range_pos c.requires), tt, rw (i, e.size) refl, rw (i, e.rest) (none_yet arm c.args.t.now))

pub parts-region-requires : goal.parts-region-requires
parts-region-requires t c =
    (omega (arith, c.decreases), one_range c.requires c.in-Some.part.now (c.in-Some.ensures.steps.1.1 ∙ c.loop-part.invariant.2))

pub parts-loop-part-preserved : goal.parts-loop-part-preserved
parts-loop-part-preserved t c =
    let i = c.loop-part.invariant in
    let s = c.in-Some.ensures.steps in (
      rw s.0 i.0,
      tt,
      s.0 ∙ i.2,
      one_right arm c.args.t.now c.in-Some.part.now _ (rw s.1.0 at i.3) (s.1.1 ∙ i.2) (rw c.if-not-region.false at c.region.ensures),
    )

pub parts-returns-then-not-region : goal.parts-returns-then-not-region
parts-returns-then-not-region t c =
    let i = c.loop-part.invariant in
    let s = c.in-Some.ensures.steps in
    one_wrong arm c.args.t.now c.in-Some.part.now _ (rw s.1.0 at i.3) (s.1.1 ∙ i.2) (rw c.if-not-region.true at c.region.ensures)

pub parts-returns : goal.parts-returns
parts-returns t c =
    let i = c.loop-part.invariant in
    all_right arm c.args.t.now _ c.requires i.3 (rw i.2 at c.in-None.ensures.steps.1.0)

pub region-parts-requires : goal.region-parts-requires
region-parts-requires t c =
    let d = down c.judge.ensures c.in-Parts.is in (omega (arith, c.decreases, d), parts_lie c.requires d)

pub region-returns-in-Words : goal.region-returns-in-Words
region-returns-in-Words t c =
    words_checked arm c.args.t.now c.judge.ensures _ c.in-Words.is
    (all_from_yields_List (λ v. eqb v (wanted_at arm c.in-Words.want v)) _ _ _ c.all.ensures.ran (YieldsList-from_slice c.args.t.now cc)
    (λ x b q k. search (rules, tests)))

pub region-returns-in-Parts : goal.region-returns-in-Parts
region-returns-in-Parts t c = parts_checked arm c.args.t.now c.judge.ensures _ c.in-Parts.is c.parts.ensures
