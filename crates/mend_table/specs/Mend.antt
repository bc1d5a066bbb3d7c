-- Crate mend_table: the tables that it takes, and what a mend leaves and reports. Document 01, "What a call is lent" and "Agreement, normal
-- tables, mend".
use Rattle.std.specs.Prelude.{◌≡◌, List, ℕ, ◌*◌, ◌≤◌, ◌<◌, length}
use Rattle.theory.specs.Normal.{span}
use Rattle.theory.specs.Mend.{mend, mend_count}
use Rattle.l1.specs.Arm.{arm}

-- the table is of whole 512 MB regions, as each that L0GPTSZ and PGS give is; u words are 2 MB: 32, 8 or 2 by the granule size
pub record Regions (u : ℕ) (t : List ℕ) : Type 0 where
  pub some : 0 < u
  pub few : u ≤ 32
  pub regions : ℕ
  pub whole : length t ≡ regions * span u 2

-- the mend of the limit k leaves t₂ and reports r: it "writes upward, only words that differ, stops at the limit and reports how many"
pub record Repaired (u k : ℕ) (t t₂ : List ℕ) (r : ℕ) : Type 0 where
  pub table : t₂ ≡ mend arm u k t
  pub count : r ≡ mend_count arm u k t
