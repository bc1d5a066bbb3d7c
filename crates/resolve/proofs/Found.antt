-- An address that lies in an L1 table: what its site is, where the other addresses of its L0 entry lie, and that all this stays whatever
-- table is laid there. Lookups, mends and demand 3 cite it.
use mathlib.Core.Path.{◌≡◌, refl, ap, ◌∙◌}
use mathlib.Core.List.{List}
use Prim.Native.Nat.{ℕ, ◌+◌, ◌-◌, ◌*◌, ◌/◌, ◌<◌, ◌^◌}
use native.Mathlib.Omega.{arith}
use lib.ListN.{length, get_or}
use Rattle.std.specs.Prelude.{Ok, Some}
use Rattle.gpi.specs.declared.Size.TheVariants.{MB2}
use Rattle.pa.specs.Pa.{pa}
use Rattle.theory.proofs.Arena as arena
use Rattle.l0.specs.L0.{l0_of}
use Rattle.l0.specs.declared.L0Entry.TheVariants.{Table as L0Table}
use Rattle.config.specs.declared.Widths.{Widths}
use Rattle.config.specs.Index.{l0_index, l1_words, l1_index, granule_index, granule_bytes, size_words}
use Rattle.config.specs.Fields.{configured_of}
use Rattle.config.specs.Widths.{Listed}
use Rattle.resolve.specs.declared.Call.{Call}
use Rattle.resolve.specs.declared.Call.TheVariants.{Plain}
use Rattle.resolve.specs.declared.Site.{Site}
use Rattle.resolve.specs.Place.{asks, site_of, place_of}
use Rattle.resolve.specs.Sited.{Sited, Resolved}
use Rattle.resolve.specs.Lent.{Lent, over, ask_of, place_for, placed, table_in, lay_in, Names}
use Rattle.resolve.proofs.Promises.{resolved, neighbour}
use Rattle.resolve.specs.declared.Place.TheVariants.{Table}

-- the site of the address y in the same table
abbrev pub site_at : Widths → Site → ℕ → Site
site_at w s y =
    record { start = s.start; words = s.words; index = l1_index w y; granule = granule_index w y; unit = s.unit; bytes = s.bytes }

-- x lies in a table, at the site s
pub record Found (q : Lent) (x : ℕ) (w : Widths) (s : Site) : Type 0 where
  pub configured : configured_of q.config ≡ Ok w
  pub listed : Listed w
  pub below : x < 2 ^ w.pps
  pub entry : l0_of (get_or q.l0 (l0_index w x) 0) ≡ Some (L0Table (pa (q.base + 8 * s.start)))
  pub sited : Sited (length q.arena) s
  pub words : s.words ≡ l1_words w
  pub index : s.index ≡ l1_index w x
  pub granule : s.granule ≡ granule_index w x
  pub unit : s.unit ≡ size_words w MB2
  pub bytes : s.bytes ≡ granule_bytes w
  -- every address that names the table lies in it
  pub place : (y : ℕ) → Names w x y → placed q y ≡ Ok (Table (site_at w s y))

pub found : (q : Lent) (call : Call) (x : ℕ) (s : Site) → place_for q call x ≡ Ok (Table s) → (w : Widths) × Found q x w s
unfolding site_of
found q call x s e = (
  k.0,
  record {
    configured = r.configured;
    listed = r.passed.listed;
    below = r.passed.below;
    entry = r.entry;
    sited = r.sited;
    words = words;
    index = ap (λ (t : Site). t.index) r.site;
    granule = ap (λ (t : Site). t.granule) r.site;
    unit = unit;
    bytes = bytes;
    place = λ y n. neighbour (ask_of q call x) q.l0 k.0 s y r n.below n.entry ∙ ap (λ (t : Site). Ok (Table t)) (same y);
  },
)
  where
    k : (w : Widths) × Resolved (ask_of q call x) q.l0 w s
    k = resolved (ask_of q call x) q.l0 s e

    r : Resolved (ask_of q call x) q.l0 k.0 s
    r = k.1

    words : s.words ≡ l1_words k.0
    words = ap (λ (t : Site). t.words) r.site

    unit : s.unit ≡ size_words k.0 MB2
    unit = ap (λ (t : Site). t.unit) r.site

    bytes : s.bytes ≡ granule_bytes k.0
    bytes = ap (λ (t : Site). t.bytes) r.site

    start : (q.base + 8 * s.start - q.base) / 8 ≡ s.start
    start = omega arith

    same : (y : ℕ) → site_of (ask_of q Plain y) k.0 (q.base + 8 * s.start) ≡ site_at k.0 s y
    same y = rw (start, ← words, ← unit, ← bytes) refl

-- ---- another arena of the same length

-- of the arena only the length counts for a place
pub over-place : (q : Lent) (A : List ℕ) → length A ≡ length q.arena → (call : Call) (y : ℕ)
    → place_for (over q A) call y ≡ place_for q call y
over-place q A e call y =
    ap (λ (n : ℕ). place_of (asks q.config n q.base call y) q.l0) e

-- T is laid in the place of the table of x
module _ {q : Lent} {x : ℕ} {w : Widths} {s : Site} (f : Found q x w s) where
  pub table_length : length (table_in q s) ≡ s.words
  table_length = arena.length-table s.start s.words q.arena f.sited.fits

  module _ (T : List ℕ) (len : length T ≡ s.words) where
    pub lay_length : length (lay_in q s T).arena ≡ length q.arena
    lay_length = arena.length-laid s.start s.words q.arena f.sited.fits T len

    -- it is there,
    pub lay_table : table_in (lay_in q s T) s ≡ T
    lay_table = arena.table_laid s.start s.words q.arena f.sited.fits T len

    -- another may be laid over it,
    pub lay_again : (v : List ℕ) → lay_in (lay_in q s T) s v ≡ lay_in q s v
    lay_again v = ap (over q) (arena.laid-laid s.start s.words q.arena f.sited.fits T len v)

    -- and every address that names the table lies where it lay
    pub lay_place : (y : ℕ) → Names w x y → placed (lay_in q s T) y ≡ Ok (Table (site_at w s y))
    lay_place y n = over-place q (lay_in q s T).arena lay_length Plain y ∙ f.place y n

-- a call that is no set finds x at its site
pub own_place : {q : Lent} {x : ℕ} {w : Widths} {s : Site} → Found q x w s → placed q x ≡ Ok (Table s)
own_place {x = x} {s = s} f = f.place x (record { below = f.below; entry = refl }) ∙ ap (λ (t : Site). Ok (Table t)) (rw (← f.index, ← f.granule) refl)
