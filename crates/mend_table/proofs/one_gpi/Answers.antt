-- Crate mend_table: `one_gpi` meets its contract.
use mathlib.Core.Path.{sym, ap, ◌∙◌, subst}
use Rattle.std.specs.Prelude.{Option}
use Rattle.gpi.specs.declared.Gpi.{Gpi}
use Rattle.mend_table.specs.Inner.{OneIs}
use Prim.Native.Nat.{ℕ, ◌%◌}
use Rattle.std.proofs.Common.{rules, tests, ◌||◌, length}
use Rattle.std.proofs.lemmas.Iterator.{YieldsList-from_slice}
use Rattle.std.proofs.lemmas.Iterator.Search.{all_from_yields_List}
use lib.Dec.{eqb}
use Rattle.gpi.specs.Gpi.{is_known}
use Rattle.gpi.proofs.Rules.{num-at}
use Rattle.theory.specs.Normal.{at}
use Rattle.l1.specs.Arm.{arm}
use Rattle.l1.specs.L1.{flat}
use Rattle.l1.proofs.Arm.{arm-laws}
use Rattle.mend_table.proofs.Lists.{every-list}
use Rattle.mend_table.proofs.Single.{scanned, uneven, unknown}
use Rattle.mend_table.proofs.one_gpi.Goals as goal

pub returns-then-f : goal.returns-then-f
returns-then-f c = uneven arm arm-laws (at c.args.t.now) 0 _ _ c.flat-f.ensures c.requires c.if-f.true

pub returns-then-all : goal.returns-then-all
returns-then-all c =
    let q = sym c.try_from.ensures ∙ sym c.ok.ensures.value ∙ c.in_ok-g.was in (
      scanned arm arm-laws (at c.args.t.now) 0 (length c.args.t.now) _ c.flat-f.ensures (ap is_known q) c.if-f.false
          (sym c.if-all.true
          ∙ all_from_yields_List (λ v. eqb v (at c.args.t.now 0) || eqb (flat v) c.flat-f.result) _ _ c.all.result c.all.ensures.ran
          (YieldsList-from_slice c.args.t.now cc) (λ x b q k. search (rules, tests))
          ∙ every-list (λ v. eqb v (at c.args.t.now 0) || eqb (flat v) c.flat-f.result) c.args.t.now),
      sym (num-at _ _ q) ∙ ap (λ (x : ℕ). x % 16) c.flat-f.ensures,
    )

pub returns-else-all : goal.returns-else-all
returns-else-all c =
    scanned arm arm-laws (at c.args.t.now) 0 (length c.args.t.now) _ c.flat-f.ensures
    (ap is_known (sym c.try_from.ensures ∙ sym c.ok.ensures.value ∙ c.in_ok-g.was)) c.if-f.false
    (sym c.if-all.false
    ∙ all_from_yields_List (λ v. eqb v (at c.args.t.now 0) || eqb (flat v) c.flat-f.result) _ _ c.all.result c.all.ensures.ran
    (YieldsList-from_slice c.args.t.now cc) (λ x b q k. search (rules, tests))
    ∙ every-list (λ v. eqb v (at c.args.t.now 0) || eqb (flat v) c.flat-f.result) c.args.t.now)

pub returns-in_err-g : goal.returns-in_err-g
returns-in_err-g c =
    subst (λ (x : Option Gpi). OneIs arm c.args.t.now x) (sym c.from_residual.ensures)
    (unknown arm arm-laws (at c.args.t.now) 0 _ _ c.flat-f.ensures c.requires
    (ap is_known (sym c.try_from.ensures ∙ sym c.ok.ensures.value ∙ c.in_err-g.was)))
