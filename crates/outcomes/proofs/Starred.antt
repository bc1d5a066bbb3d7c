-- The starred cases, computed, and one more.
use mathlib.Core.Path.{refl}
use Prim.Native.Nat.{ℕ}
use Rattle.theory.specs.Format.{reads}
use Rattle.theory.specs.Normal.{span}
use Rattle.theory.specs.Stores.{apply, fill}
use Rattle.theory.specs.Events.{stores, count, records, logged}
use Rattle.theory.specs.Set.{fill_event, shatter, breaks, broken, broken_barriers, new_word}
use Rattle.theory.specs.Set.{changed, scan, climb, fusing, fused, store_events, set_events}
use Rattle.granules.specs.Nibs.{nibs, word}
use Rattle.l0.specs.L0.{l0_of}
use Rattle.l1.specs.L1.{l1_of}
use Rattle.config.specs.Fields.{configured_of}
use Rattle.resolve.specs.Refusals.{arena_bad, outside}
use Rattle.resolve.specs.Place.{site_of, located, place_of}
use Rattle.gpt.specs.Lookup.{looked_at, lookup_of}
use Rattle.gpt.specs.Set.{site_set, set_at, set_of}
use Rattle.outcomes.specs.Cases.{Starred, ShatteredThenStopped}

-- what must open for the definitions to be computed
unfoldable pub opened : ℕ
unfolding reads span apply fill stores count records logged fill_event shatter breaks broken broken_barriers new_word changed scan climb
    fusing fused store_events set_events nibs word l0_of l1_of configured_of arena_bad outside site_of located place_of looked_at lookup_of site_set
    set_at set_of
opened = 0

pub starred : Starred
unfolding opened
starred = record {
  c1 = refl;
  c2 = refl;
  c3 = refl;
  c4 = refl;
  c5 = refl;
  c6 = refl;
  c6_off = refl;
  c7 = record { number = refl; stores = refl; records = refl; arena = refl; log = refl };
  c8 = record { number = refl; stores = refl; records = refl; arena = refl; log = refl };
  c9 = record { number = refl; stores = refl; records = refl; arena = refl; log = refl };
  c9_realm = record { number = refl; stores = refl; records = refl; arena = refl; log = refl };
  c10 = record { number = refl; stores = refl; records = refl; arena = refl; log = refl };
  c11 = record { number = refl; stores = refl; records = refl; arena = refl; log = refl };
}

pub shattered_then_stopped : ShatteredThenStopped
unfolding opened
shattered_then_stopped = record { number = refl; stores = refl; records = refl; arena = refl; log = refl }
