-- `dump_text::open_chunk` meets its contract.
use mathlib.Core.Path.{◌≡◌, ap, ◌∙◌, subst}
use mathlib.Core.List.{List}
use Prim.Native.Nat.{ℕ}
use native.Mathlib.Omega.{arith}
use lib.ListN.{length}
use Rattle.config.specs.declared.Widths.{Widths}
use Rattle.dump_lines.specs.Digits.{Put}
use Rattle.dump_lines.specs.Lines.{header}
use Rattle.dump_text.specs.Chunks.{step}
use Rattle.dump_text.proofs.Walk.{chunk_full, chunk_more}
use Rattle.dump_text.proofs.Steps.{header-here}
use Rattle.dump_text.proofs.open_chunk.Goals as goal

-- the header that was put, of the same widths
header_put : {v w : Widths} {o o' : List ℕ} {i n : ℕ} → v ≡ w → Put o i (header v) o' n → Put o i (header w) o' n
header_put {o = o} {o' = o'} {i = i} {n = n} e p = subst (λ (u : Widths). Put o i (header u) o' n) e p

pub returns-then-out-header_len : goal.returns-then-out-header_len
returns-then-out-header_len c =
    let e = c.header_len.ensures ∙ ap (λ (w : Widths). length (header w)) c.w.view_is in
    chunk_full _ _ _ _ (step (header c.args.t.now.widths) 1) _
    (header-here _ _ _ c.if-at-ne0.false) (omega arith)

pub returns : goal.returns
returns c =
    let e = c.header_len.ensures ∙ ap (λ (w : Widths). length (header w)) c.w.view_is in
    chunk_more _ _ _ _ (step (header c.args.t.now.widths) 1) (header-here _ _ _ c.if-at-ne0.false) (omega arith) (omega arith)
    (header_put c.w.view_is c.put_header-n.ensures) c.runs_chunk-2.ensures
