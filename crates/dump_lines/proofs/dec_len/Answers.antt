-- `dump_lines::dec_len` meets its contract.
use mathlib.Core.Path.{ap, ◌∙◌}
use native.Mathlib.Omega.{arith}
use Prim.Native.Nat.{ℕ, ◌+◌}
use Rattle.dump_lines.proofs.Decimal.{length_log, length-dec}
use Rattle.dump_lines.proofs.dec_len.Goals as goal

pub returns : goal.returns
returns c =
    let o = c.checked_ilog10.ensures in
    let e = ap (λ (k : ℕ). 1 + k) c.unwrap_or.ensures ∙ length_log _ c.args.x o.none o.power_le o.next_power_gt in
    let l = length-dec 19 c.args.x (omega arith) in
    (omega arith, omega arith)
