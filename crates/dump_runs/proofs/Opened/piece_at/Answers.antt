-- `dump_runs::Opened::piece_at` meets its contract: by the place of the address; the view is of that part of the arena.
use mathlib.Core.Path.{◌≡◌, refl, sym, ap, ap₂, ◌∙◌}
use mathlib.Core.List.{List}
use native.Mathlib.Nat.{add-sub_cancel_left}
use native.Mathlib.Omega.{arith}
use Prim.Native.Nat.{ℕ, ◌%◌, ◌^◌}
use lib.ListN.{length}
use Rattle.std.specs.Prelude.{Err, Ok, Result}
use Rattle.config.specs.declared.Widths.{Widths}
use Rattle.resolve.specs.declared.Call.TheVariants.{Plain}
use Rattle.resolve.specs.declared.Refusal.{Refusal}
use Rattle.resolve.specs.declared.Site.{Site}
use Rattle.resolve.specs.declared.Place.{Place}
use Rattle.resolve.specs.declared.Place.TheVariants.{Block, Table}
use Rattle.resolve.specs.Sited.{Sited}
use Rattle.resolve.specs.Lent.{Lent, placed}
use Rattle.resolve.proofs.Found.{found}
use Rattle.gpt.specs.Lookup.{looked_at}
use Rattle.view.specs.Reads.{held_at}
use Rattle.dump_runs.specs.Opened.{lent_of}
use Rattle.dump_runs.proofs.Stretch.{last_of}
use Rattle.dump_runs.proofs.Near.{low, piece}
use Rattle.dump_runs.proofs.Through.{answered}
use Rattle.dump_runs.proofs.Opened.piece_at.Goals as goal

-- the place in a table, and what it promises
placed_in : {r : Result Place Refusal} {p : Place} (q : Lent) (x : ℕ) (s : Site) → r ≡ placed q x → r ≡ Ok p → p ≡ Table s → placed q x ≡ Ok (Table s)
placed_in q x s e f g = sym e ∙ f ∙ ap (λ (k : Place). Ok k) g

sited : {r : Result Place Refusal} {p : Place} (q : Lent) (x : ℕ) (s : Site) → r ≡ placed q x → r ≡ Ok p → p ≡ Table s → Sited (length q.arena) s
sited q x s e f g = (found q Plain x s (placed_in q x s e f g)).1.sited

pub last_of-requires : goal.last_of-requires
last_of-requires c =
    let s = low _ _ c.args.self.now.open _ c.requires.a_bound in
    (s.0, omega (arith, s.1, s.2))

pub last_of-requires-in-Ok-Block : goal.last_of-requires-in-Ok-Block
last_of-requires-in-Ok-Block c =
    let s = low _ _ c.args.self.now.open _ c.requires.a_bound in
    (s.0, omega (arith, s.1, s.2))

pub overflow_add-s : goal.overflow_add-s
overflow_add-s c =
    let a = c.args in
    let t = c.in-Ok-Table in
    let s = sited (lent_of a.self.now) _ t.s c.place.ensures t.is t.field-0-is in
    omega (arith, s.fits, s.arena)

pub offset_bounds-self-s : goal.offset_bounds-self-s
offset_bounds-self-s c =
    let a = c.args in
    let t = c.in-Ok-Table in
    let s = sited (lent_of a.self.now) _ t.s c.place.ensures t.is t.field-0-is in
    omega (arith, s.fits, s.arena)

pub slice_bounds-new-end : goal.slice_bounds-new-end
slice_bounds-new-end c =
    let a = c.args in
    let t = c.in-Ok-Table in
    let s = sited (lent_of a.self.now) _ t.s c.place.ensures t.is t.field-0-is in
    omega (arith, s.fits, s.arena)

pub distance-requires : goal.distance-requires
distance-requires c =
    let s = low _ _ c.args.self.now.open _ c.requires.a_bound in
    omega (arith, s.1, s.2)

pub last_of-requires-in-Ok-Table : goal.last_of-requires-in-Ok-Table
last_of-requires-in-Ok-Table c =
    let s = low _ _ c.args.self.now.open _ c.requires.a_bound in
    (s.0, omega (arith, s.1, s.2))

pub returns-in-Err : goal.returns-in-Err
unfolding looked_at
returns-in-Err c =
    let a = c.args in
    piece (lent_of a.self.now) a.self.now.widths c.args.self.now.open a.a c.requires.a_bound (Err c.in-Err.r)
    (sym c.place.ensures ∙ c.in-Err.is) refl (c.last_of.ensures ∙ ap (λ (v : Widths). last_of a.a v.l0gptsz) c.w.view_is)

pub returns-in-Ok-Block : goal.returns-in-Ok-Block
unfolding looked_at
returns-in-Ok-Block c =
    let a = c.args in
    let b = c.in-Ok-Block in
    piece (lent_of a.self.now) a.self.now.widths c.args.self.now.open a.a c.requires.a_bound (Ok (Block b.g))
    (sym c.place.ensures ∙ b.is ∙ ap (λ (p : Place). Ok p) b.field-0-is) c.grant.ensures
    (c.last_of-in-Ok-Block.ensures ∙ ap (λ (v : Widths). last_of a.a v.l0gptsz) c.w.view_is)

pub returns-in-Ok-Table : goal.returns-in-Ok-Table
returns-in-Ok-Table c =
    let a = c.args in
    let t = c.in-Ok-Table in
    let q = lent_of a.self.now in
    let e = placed_in q a.a t.s c.place.ensures t.is t.field-0-is in
    let v = c.w.view_is in
    let n = c.new-v.ensures in
    piece q a.self.now.widths c.args.self.now.open a.a c.requires.a_bound (Ok (Table t.s)) e
    (answered q a.a a.self.now.widths c.args.self.now.open.configured t.s e c.answer.ensures
    (c.gpi_at-h.ensures ∙ ap₂ (λ (l : List ℕ) (k : ℕ). held_at l k c.distance.result) (ap (λ r. r.now) n.0) (n.1 ∙ ap (λ (w : Widths). w.pgs) v))
    (add-sub_cancel_left _ _) (c.distance.ensures ∙ ap (λ (w : Widths). a.a % 2 ^ w.l0gptsz) v))
    (c.last_of-in-Ok-Table.ensures ∙ ap (λ (w : Widths). last_of a.a w.pgs) v)
