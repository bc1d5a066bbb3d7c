-- `dump_text::table_chunk` meets its contract.
use mathlib.Core.Path.{ap, ◌∙◌}
use Rattle.resolve.specs.Lent.{Lent}
use Rattle.gpt.specs.Lookup.{lookup_of}
use Rattle.dump_text.specs.Chunks.{open_steps}
use Rattle.dump_text.proofs.Walk.{same_steps}
use Rattle.dump_text.proofs.Opened.{shown-steps, refused-steps}
use Rattle.dump_text.proofs.table_chunk.Goals as goal

pub returns-in-Ok : goal.returns-in-Ok
returns-in-Ok c =
    let h = c.in-Ok.ensures.shown in
    same_steps (ap (λ (q : Lent). open_steps (lookup_of q) c.in-Ok.t.widths) h.lent ∙ shown-steps _ h.widths) c.open_chunk.ensures

pub returns-in-Err : goal.returns-in-Err
returns-in-Err c =
    let h = c.in-Err.ensures.refused in
    same_steps (refused-steps _ (c.from.ensures ∙ h.number) h.none) c.told_chunk.ensures
