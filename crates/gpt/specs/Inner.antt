-- What the functions inside the crate `gpt` promise: no public contract names it.
use Rattle.std.specs.Prelude.{ℕ}
use Rattle.gpi.specs.declared.Gpi.{Gpi}
use Rattle.pa.specs.Pa.{pa}
use Rattle.resolve.specs.declared.Site.{Site}
use Rattle.set_table.specs.declared.SetAt.{SetAt}

-- what the set of the table at a site is asked
abbrev pub set_on : Site → ℕ → Gpi → SetAt
set_on s x g =
    record { offset = s.start; index = s.index; granule = s.granule; unit = s.unit; gpi = g; address = pa x; bytes = s.bytes }
