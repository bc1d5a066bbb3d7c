-- The number of a kind of record: 1 is a fill, 5 a granule store. Of the crate `stores`.
use Rattle.std.specs.Prelude.{ℕ}
use Rattle.theory.specs.Events.{kind_number, dsb_oshst, tlbi, dsb_osh}
use Rattle.stores.specs.declared.Kind.{Kind}
use Rattle.stores.specs.declared.Kind.TheVariants.{Fill, DsbOshst, Tlbi, DsbOsh, Granule}

abbrev pub kind_code : Kind → ℕ
kind_code Fill = 1
kind_code DsbOshst = kind_number dsb_oshst
kind_code Tlbi = kind_number tlbi
kind_code DsbOsh = kind_number dsb_osh
kind_code Granule = 5
