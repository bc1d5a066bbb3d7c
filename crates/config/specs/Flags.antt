-- The flags of a configuration as one number: the dump image and the C interface carry them so. Crate `config`.
use Rattle.std.specs.Prelude.{Bool, cond, List, [], ◌∷◌, ℕ, ◌+◌, ◌*◌, ◌/◌, ◌%◌, ◌^◌, eqb}
use Rattle.config.specs.declared.Config.{Config}

-- bit k of the flags
abbrev pub flag_at : ℕ → ℕ → Bool
flag_at f k = eqb (f / 2 ^ k % 2) 1

-- "flags (bits 0 to 7: GPC, SA, NSP, NA6, NA7, NSO, GDI, GPC2)", as they are read, with PPS, PGS and L0GPTSZ beside them
abbrev pub config_of : ℕ → ℕ → ℕ → ℕ → Config
config_of p g l f =
    record {
      pps = p;
      pgs = g;
      l0gptsz = l;
      gpc = flag_at f 0;
      sa = flag_at f 1;
      nsp = flag_at f 2;
      na6 = flag_at f 3;
      na7 = flag_at f 4;
      nso = flag_at f 5;
      gdi = flag_at f 6;
      gpc2 = flag_at f 7;
    }

-- the same list, as they are written: the first is bit 0
abbrev pub in_order : Config → List Bool
in_order c = c.gpc ∷ c.sa ∷ c.nsp ∷ c.na6 ∷ c.na7 ∷ c.nso ∷ c.gdi ∷ c.gpc2 ∷ []

-- the number of these bits
unfoldable pub bits : List Bool → ℕ
bits [] = 0
bits (b ∷ bs) = cond b 1 0 + 2 * bits bs

abbrev pub flags_of : Config → ℕ
flags_of c = bits (in_order c)
