-- `dump_lines::name_len` meets its contract.
use mathlib.Core.Path.{ap}
use lib.ListN.{length}
use Prim.Native.Nat.{ℕ}
use Rattle.dump_lines.specs.Digits.{dec}
use Rattle.dump_lines.specs.Lines.{name}
use native.Mathlib.Omega.{arith}
use Rattle.dump_lines.proofs.Lengths.{length-name}
use Rattle.dump_lines.proofs.name_len.Goals as goal
use Rattle.std.specs.Prelude.{Result}
use Rattle.gpi.specs.declared.Gpi.{Gpi}
use Rattle.resolve.specs.declared.Refusal.{Refusal}

pub returns-in-Err : goal.returns-in-Err
returns-in-Err c =
    let e = ap (λ (x : Result Gpi Refusal). length (name x)) c.in-Err.is in
    let h = length-name c.args.a in
    let m = c.dec_len.ensures in let n = ap (λ (k : ℕ). length (dec k)) c.from.ensures in (omega arith, omega arith)
