-- The calls by the table that their address names: what it promises to `mend_table` and `check_table`.
use mathlib.Core.Path.{◌≡◌, ap, ◌∙◌}
use mathlib.Core.List.{List}
use Prim.Native.Nat.{ℕ}
use native.Mathlib.Nat.{add-sub_cancel_left}
use native.Mathlib.Omega.{arith}
use lib.ListN.{length}
use Rattle.std.specs.Prelude.{Result, Ok, Err}
use Rattle.theory.specs.Arena.{table_at}
use Rattle.theory.proofs.Arena.{length-table}
use Rattle.resolve.specs.declared.Call.TheVariants.{Plain}
use Rattle.resolve.specs.declared.Place.{Place}
use Rattle.resolve.specs.declared.Place.TheVariants.{Block, Table}
use Rattle.resolve.specs.declared.Refusal.{Refusal}
use Rattle.resolve.specs.declared.Site.{Site}
use Rattle.resolve.specs.Sited.{Sited}
use Rattle.resolve.specs.Lent.{Lent, placed}
use Rattle.resolve.proofs.Found.{found}
use Rattle.mend_table.specs.Mend.{Regions}
use Rattle.mend.specs.Outcome.{named_by}

pub site_regions : (A : List ℕ) (s : Site) → Sited (length A) s → Regions s.unit (table_at s.start s.words A)
site_regions A s h =
    record {
      some = h.unit_least;
      few = h.unit_most;
      regions = h.regions.0;
      whole = length-table s.start s.words A h.fits
          ∙ h.regions.1;
    }

-- the part of the arena that is a site's table, as the code has it
pub ruleset part = (add-sub_cancel_left, site_regions)

-- a table is named where the address lies in one
pub named_in : (p : Result Place Refusal) (s : Site) → named_by p ≡ Ok s → p ≡ Ok (Table s)
named_in (Err r) s e = let z : ◌≡◌ {A = ℕ} 0 1 = cc in absurd (omega arith)
named_in (Ok (Block g)) s e = let z : ◌≡◌ {A = ℕ} 0 1 = cc in absurd (omega arith)
named_in (Ok (Table t)) s e = let k : t ≡ s = cc in ap (λ (u : Site). Ok (Table u)) k

module _ (q : Lent) (x : ℕ) where
  pub sited : (s : Site) → named_by (placed q x) ≡ Ok s → Sited (length q.arena) s
  sited s e = (found q Plain x s (named_in (placed q x) s e)).1.sited
