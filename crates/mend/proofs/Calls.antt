-- Mends and checks of one table as calls, by any addresses that name it: where mends one after the other lead, and what the check says
-- then.
use mathlib.Core.Path.{◌≡◌, refl, sym, ap, ◌∙◌, subst}
use mathlib.Core.Bool.{true}
use mathlib.Core.List.{List, [], ◌∷◌, ◌++◌, map}
use Prim.Native.Nat.{ℕ, ◌≤◌}
use native.Mathlib.Omega.{arith}
use lib.ListN.{length}
use Rattle.theory.specs.Format.{Format, Laws}
use Rattle.theory.specs.Normal.{normal}
use Rattle.theory.specs.Mend.{mend, mends}
use Rattle.theory.proofs.Normal.{normal-normal}
use Rattle.theory.proofs.Mend.{length-mend, mends-then}
use Rattle.config.specs.declared.Widths.{Widths}
use Rattle.config.specs.Format.{format_of}
use Rattle.config.proofs.Format.{format_laws}
use Rattle.resolve.specs.declared.Site.{Site}
use Rattle.resolve.specs.Lent.{Lent, lay_in, Names}
use Rattle.resolve.proofs.Found.{Found, lay_table, lay_again, lay_place}
use Rattle.mend_table.specs.Normal.{is_normal}
use Rattle.mend_table.proofs.Yes.{normal-yes, yes_the_one}
use Rattle.mend.specs.Outcome.{mended_number, checked_yes, mended_at, mend_of, checked_at, check_of}
use Rattle.mend.specs.Mends.{Mend, AllName, Mending}
use Rattle.std.specs.Prelude.{Ok}

limits : List Mend → List ℕ
limits [] = []
limits (m ∷ ms) = m.limit ∷ limits ms

module _ {q : Lent} {x : ℕ} {w : Widths} {s : Site} (f : Found q x w s) where
  abbrev F : Format
  F = format_of q.config

  L : Laws (format_of q.config)
  L = format_laws q.config

  -- ---- one call, with the table T in its place

  module _ (T : List ℕ) (len : length T ≡ s.words) (y : ℕ) (n : Names w x y) where
    -- a mend answers 0,
    pub mend-answers : (k : ℕ) → mended_number (mend_of (lay_in q s T) y k).answer ≡ 0
    unfolding mend_of mended_at
    mend-answers k = rw (lay_place f T len y n) refl

    -- and leaves the mended table
    pub mend-leaves : (k : ℕ) → (mend_of (lay_in q s T) y k).left ≡ lay_in q s (mend F s.unit k T)
    unfolding mend_of mended_at
    mend-leaves k =
        rw (lay_place f T len y n, lay_table f T len)
        (lay_again f T len (mend F s.unit k T))

    -- the check judges it
    pub check_judges : check_of (lay_in q s T) y ≡ Ok (is_normal F s.unit T)
    unfolding check_of checked_at
    check_judges = rw (lay_place f T len y n, lay_table f T len) refl

    -- to which it says yes, of the tables of these granules, is the normal one
    pub yes_table : check_of (lay_in q s T) y ≡ Ok true → (t : List ℕ) → map F.flat T ≡ map F.flat t → T ≡ normal F s.unit t
    yes_table v t e = yes_the_one F L s.unit T t e (ap checked_yes (sym check_judges ∙ v))

  -- ---- mends one after the other

  mends-leave : (ms : List Mend) (m : Mend) → AllName w x (ms ++ m ∷ []) → (T : List ℕ) → length T ≡ s.words
      → Mending (lay_in q s T) (ms ++ m ∷ []) (lay_in q s (mend F s.unit m.limit (mends F s.unit (limits ms) T)))
  unfolding mends limits
  mends-leave [] m n T len = (mend-answers T len m.address n.0 m.limit, mend-leaves T len m.address n.0 m.limit)
  mends-leave (h ∷ ms) m n T len =
      let u : List ℕ = mend F s.unit h.limit T in (
        mend-answers T len h.address n.0 h.limit,
        subst (λ (r : Lent). Mending r (ms ++ m ∷ []) (lay_in q s (mend F s.unit m.limit (mends F s.unit (limits ms) u))))
            (sym (mend-leaves T len h.address n.0 h.limit))
            (mends-leave ms m n.1 u (length-mend F s.unit h.limit T ∙ len)),
      )

  -- ---- THE THEOREMS, of a table T in its place

  module _ (T : List ℕ) (len : length T ≡ s.words) where
    -- Mends of any limits answer 0, and one more, of a limit of at least the table's words, leaves its normal table, and nothing else
    -- changed.
    pub mends-finish : (ms : List Mend) (m : Mend) → AllName w x (ms ++ m ∷ []) → s.words ≤ m.limit
        → Mending (lay_in q s T) (ms ++ m ∷ []) (lay_in q s (normal F s.unit T))
    mends-finish ms m n k =
        subst (λ (t : List ℕ). Mending (lay_in q s T) (ms ++ m ∷ []) (lay_in q s t))
        (mends-then F L s.unit f.sited.unit_least (limits ms) m.limit T (omega arith))
        (mends-leave ms m n T len)

  -- To a normal table the check says yes.
  pub normal-checked : (t : List ℕ) → length (normal F s.unit t) ≡ s.words → (y : ℕ) → Names w x y
      → check_of (lay_in q s (normal F s.unit t)) y ≡ Ok true
  normal-checked t len y n =
      check_judges (normal F s.unit t) len y n
      ∙ ap Ok (normal-yes F L s.unit (normal F s.unit t) (sym (normal-normal F L s.unit f.sited.unit_least t)))
