-- Laws of `l0`: what an L0 word says, and that a word that was made says what it was made of.
use mathlib.Core.Path.{◌≡◌, refl, sym, ap, ◌∙◌}
use mathlib.Core.Bool.{Bool, true, false}
use Prim.Native.Nat.{ℕ, ◌+◌, ◌*◌, ◌/◌, ◌%◌, ◌^◌, ◌<◌}
use native.Mathlib.Nat.{mod-eq_of_lt}
use native.Mathlib.Omega.{arith}
use borrow.Author.Tests.{eq-eqb, eqb-true, ltb-true}
use lib.Dec.{eqb, ltb}
use Rattle.std.specs.Prelude.{Some}
use Rattle.gpi.specs.declared.Gpi.{Gpi}
use Rattle.gpi.specs.Gpi.{num, gpi_at}
use Rattle.gpi.proofs.Table.{apart}
use Rattle.gpi.proofs.Rules.{num-lt, gpi-num}
use Rattle.pa.specs.Pa.{pa}
use Rattle.l0.specs.L0.{l0_of, block_of, block_word, table_word_of}
use Rattle.l0.specs.declared.L0Entry.TheVariants.{Block, Table}

-- a block word says its GPI, a table word its address
pub l0_block : (g : Gpi) → l0_of (block_word g) ≡ Some (Block g)
unfolding l0_of
l0_block g =
    let one : block_word g % 16 ≡ 1 = omega arith in
    let q : block_word g / 16 ≡ num g = omega arith in
    let a : block_word g / 16 % 16 ≡ num g = ap (λ (x : ℕ). x % 16) q ∙ mod-eq_of_lt (num-lt g) in
    rw (eq-eqb (block_word g % 16) 1 one) (ap block_of (ap gpi_at a ∙ gpi-num g))

pub l0_table : (a w : ℕ) → table_word_of a ≡ Some w → l0_of w ≡ Some (Table (pa a))
unfolding table_word_of l0_of
l0_table a w e = go (eqb (a % 4096) 0) refl (ltb a (2 ^ 52)) refl
  where
    made : a % 4096 ≡ 0 → a < 2 ^ 52 → l0_of (a + 3) ≡ Some (Table (pa a))
    made z l =
        let t : (a + 3) % 16 ≡ 3 = omega arith in
        let q : (a + 3) / 4096 ≡ a / 4096 = omega arith in
        let f : a / 4096 < 2 ^ 40 = omega arith in
        let m : a / 4096 * 4096 ≡ a = omega arith in
        let b : (a + 3) / 4096 % 2 ^ 40 * 4096 ≡ a = ap (λ (x : ℕ). x % 2 ^ 40 * 4096) q ∙ ap (λ (x : ℕ). x * 4096) (mod-eq_of_lt f) ∙ m in
        rw t (ap (λ (x : ℕ). Some (Table (pa x))) b)

    go : (x : Bool) → eqb (a % 4096) 0 ≡ x → (y : Bool) → ltb a (2 ^ 52) ≡ y → l0_of w ≡ Some (Table (pa a))
    go true p true q =
        let k : a + 3 ≡ w = cc in
        ap l0_of (sym k) ∙ made (eqb-true (a % 4096) 0 p) (ltb-true a (2 ^ 52) q)
    go true p false q = apart (cc)
    go false p y q = apart (cc)
