-- `dump_text::opens` meets its contract: what it makes opens.
use Rattle.std.proofs.Common.{rules, ◌≡◌, Some}
use Rattle.std.proofs.lemmas.Bool.Decides.{nat_tests}
use Rattle.gpt.specs.Lends.{lends}
use Rattle.dump_text.specs.Text.{opening_of, first_number}
use Rattle.dump_text.proofs.Opened.{opened}
use Rattle.dump_text.proofs.opens.Goals as goal

pub invariant_of-result : goal.invariant_of-result
invariant_of-result c =
    let e : opening_of c.args.p.now.config (first_number (lends c.args.p.now c.args.arena.now)) ≡ Some c.in_ok-w.w = search (rules, nat_tests) in
    record { «open» = opened _ e }
