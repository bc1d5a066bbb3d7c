-- What is proved, in the order of document 01. The theorems stand in these files, each under its comment:
--   Normal  the normal table: what it says, a function of what is read, reads the same, its own normal table, the one such table;
--           and Levels, its end: a normal word takes the largest size that fits
--   Mend    what a mend keeps, writes and counts; mends of any limits end in the normal table of the start
--   Cut     agreement; what a set keeps; a set cut after k stores: what it reads, and what mends make of it
--   Log     the log, read back from its words, tells the stores of the set
--   Whole   normal tables are whole, whole tables agree, finished sets keep it and finished mends make it, stopped ones need not
--   Arena   a table that stands in an arena: laid in its place, and stores made there
-- The code's proofs cite Stores and Events (lists of stores and events compose) and MendWalk (mend's loop). The rest serves these.
pub mod Lists
pub mod Ranges
pub mod Stores
pub mod Arena
pub mod Events
pub mod Normal
pub mod Levels
pub mod Mend
pub mod MendWalk
pub mod Shatter
pub mod Set
pub mod Cut
pub mod Log
pub mod Whole
