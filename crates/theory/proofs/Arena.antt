-- A table that stands in an arena, in the crate `theory`: laid in its place it is there, and the words around it stay; stores made in the
-- arena where it stands are made in the table.
use mathlib.Core.Path.{◌≡◌, refl, sym, ap, ap₂, ◌∙◌}
use mathlib.Core.Logic.{◌⊎◌, inl, inr}
use mathlib.Core.List.{List, [], ◌∷◌, ◌++◌, map, map-append}
use Prim.Native.Nat.{ℕ, zero, suc, ◌+◌, ◌-◌, ◌≤◌, ◌<◌}
use native.Mathlib.Omega.{arith}
use borrow.Rule.Slice.PartMut.{same_len_mid, put_same, set_mid_at, take_put}
use lib.ListN.{length, take, drop, set, length-set, length-drop}
use lib.Seq.{length-take-le, take_at, drop_at, get_or-take, get_or-drop, ext_get_or}
use Rattle.theory.specs.Normal.{at}
use Rattle.theory.specs.Stores.{Store, apply, cut, moved, shifted, Inside}
use Rattle.theory.specs.Arena.{table_at, laid}
use Rattle.theory.proofs.Stores.{each_take}

take-shifted : (o k : ℕ) (ss : List Store) → take k (shifted o ss) ≡ shifted o (take k ss)
take-shifted o zero ss = refl
take-shifted o (suc k) [] = refl
take-shifted o (suc k) (s ∷ ss) = ap (λ (r : List Store). moved o s ∷ r) (take-shifted o k ss)

-- a word of the table is one of the arena
pub table_word : (o n : ℕ) (A : List ℕ) (i : ℕ) → i < n → at (table_at o n A) i ≡ at A (o + i)
table_word o n A i b = get_or-take n (drop o A) i 0 b ∙ get_or-drop o A i 0

-- tables of one image under f have one in the arena
pub map-laid : (f : ℕ → ℕ) (o n : ℕ) (A t v : List ℕ) → map f t ≡ map f v → map f (laid o n A t) ≡ map f (laid o n A v)
map-laid f o n A t v e = simp (map-append, e)

module _ (o n : ℕ) (A : List ℕ) (fits : o + n ≤ length A) where
  pub length-table : length (table_at o n A) ≡ n
  length-table = length-take-le n (drop o A) (rw length-drop (omega arith))

  -- ---- t, which is as long as the table, laid in its place

  module _ (t : List ℕ) (len : length t ≡ n) where
    pub length-laid : length (laid o n A t) ≡ length A
    length-laid = same_len_mid o n A t (len ∙ sym length-table)

    drop-laid : drop o (laid o n A t) ≡ t ++ drop n (drop o A)
    drop-laid = drop_at (take o A) (t ++ drop n (drop o A)) o (length-take-le o A (omega arith))

    rest-laid : drop n (drop o (laid o n A t)) ≡ drop n (drop o A)
    rest-laid = ap (drop n) drop-laid ∙ drop_at t (drop n (drop o A)) n len

    -- it is there
    pub table_laid : table_at o n (laid o n A t) ≡ t
    table_laid = ap (take n) drop-laid ∙ take_at t (drop n (drop o A)) n len

    pub laid_in : (i : ℕ) → i < n → at (laid o n A t) (o + i) ≡ at t i
    laid_in i b = sym (table_word o n (laid o n A t) i b) ∙ ap (λ (l : List ℕ). at l i) table_laid

    -- the words around it stay
    pub laid-before : (k : ℕ) → k < o → at (laid o n A t) k ≡ at A k
    laid-before k b =
        sym (get_or-take o (laid o n A t) k 0 b) ∙ ap (λ (l : List ℕ). at l k) (take_put o n A t (omega arith)) ∙ get_or-take o A k 0 b

    pub laid-after : (k : ℕ) → o + n ≤ k → at (laid o n A t) k ≡ at A k
    laid-after k b =
        let j : ℕ = k - o - n in
        let e : o + (n + j) ≡ k = omega arith in
        rw (← e)
        (sym (get_or-drop n (drop o (laid o n A t)) j 0 ∙ get_or-drop o (laid o n A t) (n + j) 0)
        ∙ ap (λ (l : List ℕ). at l j) rest-laid
        ∙ get_or-drop n (drop o A) j 0 ∙ get_or-drop o A (n + j) 0)

    -- and so do those of another table, of m words from p on
    module _ (p m : ℕ) (apart : (o + n ≤ p) ⊎ (p + m ≤ o)) where
      pub laid-other : (i : ℕ) → i < m → at (laid o n A t) (p + i) ≡ at A (p + i)
      laid-other i b = go apart
        where
          go : (o + n ≤ p) ⊎ (p + m ≤ o) → at (laid o n A t) (p + i) ≡ at A (p + i)
          go (inl h) = laid-after (p + i) (omega arith)
          go (inr h) = laid-before (p + i) (omega arith)

    -- what is laid over it is laid in the arena
    pub laid-laid : (v : List ℕ) → laid o n (laid o n A t) v ≡ laid o n A v
    laid-laid v = ap₂ (λ (a b : List ℕ). a ++ (v ++ b)) (take_put o n A t (omega arith)) rest-laid

    set-laid : (i w : ℕ) → i < n → set (laid o n A t) (o + i) w ≡ laid o n A (set t i w)
    set-laid i w b =
        sym (set_mid_at o n i (laid o n A t) w (rw (table_laid, len) b))
        ∙ laid-laid (set (table_at o n (laid o n A t)) i w)
        ∙ ap (λ (v : List ℕ). laid o n A (set v i w)) table_laid

  -- its own table laid in its place
  pub laid_same : laid o n A (table_at o n A) ≡ A
  laid_same = put_same o n A

  -- ---- stores within the table, made in the arena where it stands

  apply-laid : (ss : List Store) → Inside n ss → (t : List ℕ) → length t ≡ n → apply (laid o n A t) (shifted o ss) ≡ laid o n A (apply t ss)
  unfolding apply
  apply-laid [] h t len = refl
  apply-laid (s ∷ ss) h t len =
      ap (λ (l : List ℕ). apply l (shifted o ss)) (set-laid t len s.index s.word h.0)
      ∙ apply-laid ss h.1 (set t s.index s.word) (length-set t s.index s.word ∙ len)

  pub apply-part : (ss : List Store) → Inside n ss → apply A (shifted o ss) ≡ laid o n A (apply (table_at o n A) ss)
  apply-part ss h = ap (λ (l : List ℕ). apply l (shifted o ss)) (sym laid_same) ∙ apply-laid ss h (table_at o n A) length-table

  -- so is a cut: the arena cut after k stores is the arena with the table cut so
  pub cut-part : (ss : List Store) → Inside n ss → (k : ℕ) → cut k A (shifted o ss) ≡ laid o n A (cut k (table_at o n A) ss)
  unfolding cut
  cut-part ss h k = rw (take-shifted o k ss) (apply-part (take k ss) (each_take _ k ss h))

-- another table stays
pub table_other : (o n : ℕ) (A : List ℕ) → o + n ≤ length A → (t : List ℕ) → length t ≡ n
    → (p m : ℕ) → p + m ≤ length A → (o + n ≤ p) ⊎ (p + m ≤ o) → table_at p m (laid o n A t) ≡ table_at p m A
table_other o n A fits t len p m f apart =
    let e : length (table_at p m (laid o n A t)) ≡ m = length-table p m (laid o n A t) (omega (arith, length-laid o n A fits t len)) in
    ext_get_or 0 (table_at p m (laid o n A t)) (table_at p m A) (e ∙ sym (length-table p m A f))
    (λ i b.
    table_word p m (laid o n A t) i (omega arith) ∙ laid-other o n A fits t len p m apart i (omega arith)
    ∙ sym (table_word p m A i (omega arith)))
