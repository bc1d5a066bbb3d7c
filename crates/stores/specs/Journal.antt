-- What a method of a journal promises: its events happened to the table and the log that the journal has, and nothing else; and what it
-- asks. Document 01: "each one's contract states its words and its own record together". Of the crate `stores`.
use Rattle.std.specs.Prelude.{◌≡◌, List, ℕ, ◌+◌, ◌*◌, ◌≤◌, ◌<◌, ◌^◌, length}
use Rattle.std.proofs.lemmas.List.Edits.{sets}
use Rattle.theory.specs.Events.{Event}
use Rattle.stores.specs.declared.Journal.{Journal}
use Rattle.stores.specs.Done.{Done}

-- k is j later on: its table and its log are the very slices that j's are, at the same place
pub record Same (j k : Journal) : Type 0 where
  pub table : k.table.ghost_name ≡ j.table.ghost_name
  pub log : k.log.ghost_name ≡ j.log.ghost_name
  pub offset : k.offset ≡ j.offset

-- the events es happened from j to k
pub record Journaled (es : List Event) (j k : Journal) : Type 0 where
  pub same : Same j k
  pub done : Done j.offset es j.table.now k.table.now j.log.now k.log.now j.tally k.tally

-- room for r records and n stores more
pub record Space (j : Journal) (r n : ℕ) : Type 0 where
  pub arena : j.offset + length j.table.now < 2 ^ 62
  pub room : 4 * (j.tally.records + r) ≤ length j.log.now
  pub few : j.tally.stores + n < 2 ^ 62

-- the words are laid over the log as the next record, and that is all
pub record Recorded (words : List ℕ) (j k : Journal) : Type 0 where
  pub same : Same j k
  pub table : k.table.now ≡ j.table.now
  pub log : k.log.now ≡ sets j.log.now (4 * j.tally.records) words
  pub records : k.tally.records ≡ j.tally.records + 1
  pub stores : k.tally.stores ≡ j.tally.stores
