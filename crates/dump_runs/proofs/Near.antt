-- Where a lookup answers alike: in one granule, and in one L0 entry that isn't a table inside the arena.
use mathlib.Core.Path.{◌≡◌, refl, sym, ap, ◌∙◌, subst}
use mathlib.Core.Bool.{Bool, true, false, cond}
use Prim.Native.Nat.{ℕ, ◌+◌, ◌/◌, ◌%◌, ◌^◌, ◌≤◌, ◌<◌}
use native.Mathlib.Omega.{arith}
use lib.ListN.{length, get_or}
use Rattle.std.specs.Prelude.{Err, None, Ok, Option, Result, Some}
use Rattle.l0.specs.declared.L0Entry.{L0Entry}
use Rattle.l0.specs.declared.L0Entry.TheVariants.{Block as L0Block, Table as L0Table}
use Rattle.l0.specs.L0.{l0_of}
use Rattle.config.specs.declared.Widths.{Widths}
use Rattle.config.specs.Widths.{Listed}
use Rattle.config.specs.Index.{l0_index, l1_index, granule_index, l1_words}
use Rattle.config.proofs.Bounds.{listed-widths}
use Rattle.resolve.specs.declared.Refusal.{Refusal}
use Rattle.resolve.specs.declared.Refusal.TheVariants.{OutsideArena}
use Rattle.resolve.specs.declared.Call.TheVariants.{Plain}
use Rattle.resolve.specs.declared.Place.{Place}
use Rattle.resolve.specs.declared.Place.TheVariants.{Block, Table}
use Rattle.resolve.specs.Refusals.{outside}
use Rattle.resolve.specs.Place.{site_of, entered}
use Rattle.resolve.specs.Lent.{Lent, ask_of, place_for}
use Rattle.resolve.specs.Inner.{onward}
use Rattle.resolve.proofs.Chain.{through}
use Rattle.gpt.specs.Lookup.{looked_at, lookup_of}
use Rattle.dump_runs.specs.declared.Piece.{Piece}
use Rattle.dump_runs.specs.Runs.{total}
use Rattle.dump_runs.specs.Inner.{Open, Holds}
use Rattle.dump_runs.proofs.Stretch.{last_of, last_from, last_same, last_inside, below_52, placed}

-- the bits of the aligned stretch that a place speaks for
abbrev bits_of : Widths → Result Place Refusal → ℕ
bits_of w (Err r) = w.l0gptsz
bits_of w (Ok (Block g)) = w.l0gptsz
bits_of w (Ok (Table s)) = w.pgs

module _ (Q : Lent) (w : Widths) (o : Open Q w) where
  listed : Listed w
  listed = listed-widths Q.config w o.configured

  pub pps_most : w.pps ≤ 52
  pps_most = listed.pps_most

  -- the L0 word of an address, and what it means there
  abbrev word : ℕ → Option L0Entry
  word x = l0_of (get_or Q.l0 (l0_index w x) 0)

  abbrev entry : ℕ → Option L0Entry → Result Place Refusal
  entry x e = onward (ask_of Q Plain x) w e

  placed_by : (x : ℕ) → x < total w → place_for Q Plain x ≡ entry x (word x)
  placed_by x h =
      through (ask_of Q Plain x) Q.l0 w o.configured
      (record { listed = listed; enough = o.enough; arena = o.arena; long = refl; below = h; gpi = refl })

  module _ (a x : ℕ) (h : a < total w) (l : x < total w) where
    -- one granule
    same-site : x / 2 ^ w.pgs ≡ a / 2 ^ w.pgs → (t : ℕ) → site_of (ask_of Q Plain x) w t ≡ site_of (ask_of Q Plain a) w t
    unfolding site_of
    same-site e t =
        let k = listed in
        let i : l1_index w x ≡ l1_index w a = placed a x w.pgs e (w.pgs + 4) w.l0gptsz (omega arith) (omega arith) in
        let g : granule_index w x ≡ granule_index w a = ap (λ (m : ℕ). m % 16) e in
        rw (i, g)

    pub same_granule : x / 2 ^ w.pgs ≡ a / 2 ^ w.pgs → place_for Q Plain x ≡ place_for Q Plain a
    same_granule e =
        let k = listed in
        let i : l0_index w x ≡ l0_index w a = placed a x w.pgs e w.l0gptsz w.pps (omega arith) (omega arith) in
        placed_by x l
        ∙ (λ j. entered (l0_of (get_or Q.l0 (i j) 0)) (λ t. cond (outside Q.base (length Q.arena) t (l1_words w))
        (Err OutsideArena) (Ok (Table (same-site e t j)))))
        ∙ sym (placed_by a h)

    -- one L0 entry, whose stretch is asked for where it is no table
    pub same_entry : x / 2 ^ w.l0gptsz ≡ a / 2 ^ w.l0gptsz → (p : Result Place Refusal) → place_for Q Plain a ≡ p → bits_of w p ≡ w.l0gptsz
        → w.pgs < w.l0gptsz
        → place_for Q Plain x ≡ p
    same_entry e p f g z =
        placed_by x l ∙ ap (λ (j : ℕ). entry x (l0_of (get_or Q.l0 j 0))) i ∙ go (word a) (sym (placed_by a h) ∙ f)
      where
        i : l0_index w x ≡ l0_index w a
        i = let k = listed in placed a x w.l0gptsz e w.l0gptsz w.pps (omega arith) (omega arith)

        table : (t : ℕ) (q : Bool) → cond q (Err OutsideArena) (Ok (Table (site_of (ask_of Q Plain a) w t))) ≡ p
            → cond q (Err OutsideArena) (Ok (Table (site_of (ask_of Q Plain x) w t))) ≡ p
        table t true q = q
        table t false q = absurd (let y : w.pgs ≡ w.l0gptsz = ap (bits_of w) q ∙ g in omega arith)

        go : (t : Option L0Entry) → entry a t ≡ p → entry x t ≡ p
        go (Some (L0Block r)) q = q
        go (Some (L0Table t)) q = table t.0 (outside Q.base (length Q.arena) t.0 (l1_words w)) q
        go None q = q

  -- ---- a piece

  bits_most : (p : Result Place Refusal) → bits_of w p ≤ w.pps
  bits_most (Err r) = listed.wide
  bits_most (Ok (Block g)) = listed.wide
  bits_most (Ok (Table s)) = let k = listed in omega arith

  module _ (a : ℕ) (h : a < total w) where
    same_place : (x : ℕ) → a ≤ x → x < total w → (p : Result Place Refusal) → place_for Q Plain a ≡ p → x ≤ last_of a (bits_of w p) → place_for Q Plain x ≡ p
    same_place x i l (Err r) f j =
        let k = listed in same_entry a x h l (last_same a w.l0gptsz x i j) (Err r) f refl (omega arith)
    same_place x i l (Ok (Block g)) f j = let k = listed in same_entry a x h l (last_same a w.l0gptsz x i j) (Ok (Block g)) f refl (omega arith)
    same_place x i l (Ok (Table s)) f j = same_granule a x h l (last_same a w.pgs x i j) ∙ f

    pub low : (a < 2 ^ 52) × (w.l0gptsz ≤ 52) × (w.pgs ≤ 52)
    low = let k = listed in (below_52 a w.pps pps_most h, omega arith, omega arith)

    -- by the place of a: what a lookup answers there, to the last address that the place speaks for
    pub piece : {p : Piece} (q : Result Place Refusal) → place_for Q Plain a ≡ q → p.answer ≡ looked_at Q q → p.last ≡ last_of a (bits_of w q)
        → Holds (lookup_of Q) (total w) a p
    unfolding lookup_of
    piece {p} q g e f =
        let i : last_of a (bits_of w q) < total w = last_inside a (bits_of w q) w.pps (bits_most q) h in
        record {
          answer = e ∙ ap (looked_at Q) (sym g);
          from = subst (λ (m : ℕ). a ≤ m) (sym f) (last_from a (bits_of w q));
          inside = subst (λ (m : ℕ). m < total w) (sym f) i;
          same = λ x u v. ap (looked_at Q) (same_place x u (omega arith) q g (subst (λ (m : ℕ). x ≤ m) f v) ∙ sym g);
        }
