-- Crate resolve. The order of refusals, link by link: what the definition says where a test is met and those before it are not, and what
-- holds of a call that met none.
use mathlib.Core.Path.{◌≡◌, ap, ◌∙◌}
use mathlib.Core.Bool.{Bool, true, false, cond}
use mathlib.Core.List.{List}
use Prim.Native.Nat.{ℕ, ◌*◌, ◌/◌, ◌%◌, ◌<◌, ◌^◌}
use native.Mathlib.Omega.{arith}
use borrow.Author.Tests.{le-ltb, lt-leb, ltb-false, leb-false}
use lib.Dec.{eqb, ltb, leb}
use lib.ListN.{length}
use Rattle.std.specs.Prelude.{Err, None, Ok, Option, Some, ok_or}
use Rattle.gpi.specs.Gpi.{gpi_at}
use Rattle.gpi.specs.declared.Gpi.{Gpi}
use Rattle.pa.specs.declared.PA.{PA}
use Rattle.pa.specs.Pa.{pa}
use Rattle.l0.specs.L0.{l0_of, block_of}
use Rattle.l0.specs.declared.L0Entry.{L0Entry}
use Rattle.l0.specs.declared.L0Entry.TheVariants.{Table as L0Table}
use Rattle.config.specs.declared.Widths.{Widths}
use Rattle.config.specs.Fields.{configured_of}
use Rattle.config.specs.Index.{l0_entries}
use Rattle.config.proofs.Bounds.{listed-widths}
use Rattle.resolve.specs.declared.Ask.{Ask}
use Rattle.resolve.specs.declared.Refusal.{Refusal}
use Rattle.resolve.specs.declared.Refusal.TheVariants.{FewL0Words, BadArena, ShortLog, InvalidRequest}
use Rattle.resolve.specs.Refusals.{arena_bad, log_short, gpi_bad}
use Rattle.resolve.specs.Place.{located, place_of}
use Rattle.resolve.specs.Sited.{Passed}
use Rattle.resolve.specs.Inner.{Entry, word_of, onward}

-- ---- the tests before the L0 word, as they came out: the configuration, 3, 4, 5, the address and the GPI

pub record Asked (q : Ask) (l : List ℕ) (w : Widths) (a b d f g : Bool) : Type 0 where
  pub taken : configured_of q.config ≡ Ok w
  pub few : ltb (length l) (l0_entries w) ≡ a
  pub arena : arena_bad q.base.0 q.words ≡ b
  pub log : log_short q.call ≡ d
  pub address : leb (2 ^ w.pps) q.address.0 ≡ f
  pub gpi : gpi_bad q.config q.call ≡ g

module _ {q : Ask} {l : List ℕ} {w : Widths} {a b d f g : Bool} (k : Asked q l w a b d f g) where
  order :
      place_of q l
      ≡ cond a (Err FewL0Words) (cond b (Err BadArena) (cond d (Err ShortLog)
      (cond f (Err InvalidRequest) (cond g (Err InvalidRequest) (onward q w (word_of q l w))))))
  unfolding located place_of
  order = rw (k.taken, k.few, k.arena, k.log, k.address, k.gpi)

  -- one lemma for each return: the test is met, the earlier ones are not

  pub few_words : a ≡ true → Err FewL0Words ≡ place_of q l
  few_words x = rw (order, x)

  pub bad_arena : a ≡ false → b ≡ true → Err BadArena ≡ place_of q l
  bad_arena x y = rw (order, x, y)

  pub short_log : a ≡ false → b ≡ false → d ≡ true → Err ShortLog ≡ place_of q l
  short_log x y z = rw (order, x, y, z)

  pub bad_address : a ≡ false → b ≡ false → d ≡ false → f ≡ true → Err InvalidRequest ≡ place_of q l
  bad_address x y z u = rw (order, x, y, z, u)

  pub bad_gpi : a ≡ false → b ≡ false → d ≡ false → f ≡ false → g ≡ true → Err InvalidRequest ≡ place_of q l
  bad_gpi x y z u v = rw (order, x, y, z, u, v)

  pub none-met : a ≡ false → b ≡ false → d ≡ false → f ≡ false → g ≡ false → Passed q l w
  none-met x y z u v =
      record {
        listed = listed-widths q.config w k.taken;
        enough = ltb-false _ _ (k.few ∙ x);
        arena = k.arena ∙ y;
        long = k.log ∙ z;
        below = leb-false _ _ (k.address ∙ u);
        gpi = k.gpi ∙ v;
      }

-- ---- all of these let through: the L0 word decides

pub through : (q : Ask) (l : List ℕ) (w : Widths) → configured_of q.config ≡ Ok w → Passed q l w → place_of q l ≡ onward q w (word_of q l w)
through q l w o p =
    let k : Asked q l w false false false false false =
    record { taken = o; few = le-ltb _ _ p.enough; arena = p.arena; log = p.long; address = lt-leb _ _ p.below; gpi = p.gpi } in
    order k

-- ---- what holds of an L0 table's address: bits 12 to 51

pub none : {A : Type 0} → ◌≡◌ {A = ℕ} 0 1 → A
none z = absurd (omega arith)

pub table_address : (v : ℕ) (a : PA) → l0_of v ≡ Some (L0Table a) → (a.0 % 4096 ≡ 0) × (a.0 < 2 ^ 52)
unfolding l0_of
table_address v a e = go (eqb (v % 16) 1) (eqb (v % 16) 3) (gpi_at (v / 2 ^ 4 % 2 ^ 4)) e
  where
    go : (s t : Bool) (n : Option Gpi) → cond s (block_of n) (cond t (Some (L0Table (pa (v / 2 ^ 12 % 2 ^ 40 * 2 ^ 12)))) None) ≡ Some (L0Table a)
        → (a.0 % 4096 ≡ 0) × (a.0 < 2 ^ 52)
    go true t (Some g) f = none (cc)
    go true t None f = none (cc)
    go false true n f =
        let k : pa (v / 2 ^ 12 % 2 ^ 40 * 2 ^ 12) ≡ a = cc in
        let m : v / 2 ^ 12 % 2 ^ 40 * 2 ^ 12 ≡ a.0 = ap (λ (x : PA). x.0) k in
        (omega arith, omega arith)
    go false false n f = none (cc)

-- of what some L0 word says, where it is an entry
pub table_below : (e : Option L0Entry) (r : Refusal) (x : L0Entry) (a : PA) → Entry e → ok_or e r ≡ Ok x → x ≡ L0Table a → a.0 < 2 ^ 52
table_below (Some x) r y a f p q = let k : Some x ≡ Some (L0Table a) = cc in (table_address f.0 a (f.1 ∙ k)).1
table_below None r y a f p q = none (cc)
