-- Worked examples of the definitions, by computation alone. Crate `config`.
use mathlib.Core.Path.{◌≡◌, refl}
use mathlib.Core.Bool.{Bool, true, false}
use Prim.Native.Nat.{ℕ}
use Rattle.std.specs.Prelude.{Ok}
use Rattle.gpi.specs.declared.Gpi.TheVariants.{NonSecureOnly, NoAccess7, Secure}
use Rattle.config.specs.declared.Config.{Config}
use Rattle.config.specs.Fields.{configured_of, number, supported_of}
use Rattle.config.specs.Flags.{config_of}

abbrev with : ℕ → ℕ → ℕ → Bool → Config
with p g l o =
    let n = false in
    record { pps = p; pgs = g; l0gptsz = l; gpc = o; sa = n; nsp = n; na6 = n; na7 = true; nso = true; gdi = n; gpc2 = true }

-- "PPS 0, L0GPTSZ 0, PGS 1, GPC on, all else off"
all-else-off :
    config_of 0 1 0 1 ≡ record {
      pps = 0;
      pgs = 1;
      l0gptsz = 0;
      gpc = true;
      sa = false;
      nsp = false;
      na6 = false;
      na7 = false;
      nso = false;
      gdi = false;
      gpc2 = false;
    }
all-else-off = refl

-- bits 0, 4, 5 and 7
order : config_of 0 1 0 0b1011_0001 ≡ with 0 1 0 true
order = refl

-- arrangement B, and one L0 entry for the whole space
base : configured_of (with 0 1 0 true) ≡ Ok (record { pps = 32; pgs = 16; l0gptsz = 30 })
unfolding configured_of
base = refl

equal_widths : number (configured_of (with 1 0 6 true)) ≡ 0
unfolding configured_of
equal_widths = refl

-- C6; a value that isn't listed is told before GPC
c6 : number (configured_of (with 0 1 4 true)) ≡ 1
unfolding configured_of
c6 = refl

c6_off : number (configured_of (with 0 1 4 false)) ≡ 2
unfolding configured_of
c6_off = refl

unlisted_first : number (configured_of (with 0 3 0 false)) ≡ 1
unfolding configured_of
unlisted_first = refl

unlisted_l0gptsz : number (configured_of (with 0 0 8 true)) ≡ 1
unfolding configured_of
unlisted_l0gptsz = refl

-- 7 needs GDI besides its flag; 13 needs GPC2
supports : (supported_of (with 0 1 0 true) NoAccess7 ≡ false) × (supported_of (with 0 1 0 true) NonSecureOnly ≡ true) ×
    (supported_of (with 0 1 0 true) Secure ≡ true)
supports = (refl, refl, refl)
