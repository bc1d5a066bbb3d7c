-- `dump_text::dump_chunk` meets its contract.
use mathlib.Core.Path.{◌≡◌, refl, sym, ap, ◌∙◌}
use native.Mathlib.Omega.{arith}
use Prim.Native.Nat.{ℕ, ◌≤◌}
use mathlib.Core.List.{List}
use lib.ListN.{length, take}
use lib.Seq.{length-take-le}
use Rattle.dump_image.proofs.Fits.{ends, whole_fits}
use Rattle.dump_lines.specs.Lines.{ascii, told}
use Rattle.dump_text.specs.Chunks.{one_step, image_steps, dump_steps}
use Rattle.dump_text.proofs.Walk.{same_steps}
use Rattle.dump_text.proofs.dump_chunk.Goals as goal

-- the rooms are as long as the image's counts
long : (n m : ℕ) (t : List ℕ) → m ≡ length t → n ≤ m → n ≡ length (take n t)
long n m t e h = sym (length-take-le n t (omega arith))

pub slice_bounds-l0-end : goal.slice_bounds-l0-end
slice_bounds-l0-end c = let f = whole_fits _ _ (sym c.parse.ensures ∙ c.in-Ok.is) in let h = f.l0_most in omega arith

pub slice_bounds-loaded_chunk-end : goal.slice_bounds-loaded_chunk-end
slice_bounds-loaded_chunk-end c =
    long _ _ _ refl (whole_fits _ _ (sym c.parse.ensures ∙ c.in-Ok.is)).l0_most

pub slice_bounds-arena-end : goal.slice_bounds-arena-end
slice_bounds-arena-end c = let f = whole_fits _ _ (sym c.parse.ensures ∙ c.in-Ok.is) in let h = f.arena_most in omega arith

pub slice_bounds-loaded_chunk-end-in-Ok : goal.slice_bounds-loaded_chunk-end-in-Ok
slice_bounds-loaded_chunk-end-in-Ok c =
    long _ _ _ refl (whole_fits _ _ (sym c.parse.ensures ∙ c.in-Ok.is)).arena_most

pub loaded_chunk-requires : goal.loaded_chunk-requires
loaded_chunk-requires c =
    let f = whole_fits _ _ (sym c.parse.ensures ∙ c.in-Ok.is) in
    let i = f.inside in let e = ends _ _ f in
    (sym (long _ 64 _ refl f.l0_most), sym (long _ 4096 _ refl f.arena_most), omega arith)

pub returns-in-Ok : goal.returns-in-Ok
unfolding dump_steps
returns-in-Ok c =
    same_steps (ap (image_steps c.args.s.now) (sym (sym c.parse.ensures ∙ c.in-Ok.is))) c.loaded_chunk.ensures

pub returns-in-Err : goal.returns-in-Err
unfolding dump_steps
returns-in-Err c =
    same_steps
    (ap (λ (k : ℕ). one_step (told (ascii "bad image ") k)) c.from.ensures
    ∙ ap (image_steps c.args.s.now) (sym (sym c.parse.ensures ∙ c.in-Err.is)))
    c.told_chunk.ensures
