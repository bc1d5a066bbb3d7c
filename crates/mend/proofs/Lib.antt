-- What is proved beyond the functions' contracts. The theorems stand in these files, each under its comment:
--   Calls   mends of an address's table as calls, of any limits and then one that no limit stops; the check of what they leave
--   Lookups a mend changes no lookup
--   Cases   worked examples
-- The rest serves the functions' proofs.
pub mod Sites
pub mod Calls
pub mod Lookups
pub mod Cases
