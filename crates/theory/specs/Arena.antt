-- A table that stands in an arena: its words, and the arena with other words in their place. Document 01, "the L1 table is .. wholly inside
-- the arena". Of the crate `theory`.
use Rattle.std.specs.Prelude.{List, ℕ}
use borrow.Rule.Slice.PartMut.{mid_of, put_mid}

-- the n words of the arena A from o on
abbrev pub table_at : ℕ → ℕ → List ℕ → List ℕ
table_at o n A = mid_of o n A

-- A with t in their place
abbrev pub laid : ℕ → ℕ → List ℕ → List ℕ → List ℕ
laid o n A t = put_mid o n A t
