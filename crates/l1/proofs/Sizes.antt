-- Laws of `l1`: sizes as levels, the next smaller.
use mathlib.Core.Path.{◌≡◌, refl}
use Prim.Native.Nat.{suc}
use Rattle.std.specs.Prelude.{None, Some}
use Rattle.gpi.specs.declared.Size.{Size}
use Rattle.gpi.specs.declared.Size.TheVariants.{MB2, MB32, MB512}
use Rattle.gpi.specs.Size.{smaller_of}
use Rattle.gpi.proofs.Table.{apart}
use Rattle.l1.specs.Arm.{level_of}

pub level_down : (s m : Size) → smaller_of s ≡ Some m → level_of s ≡ suc (level_of m)
level_down MB2 m e = apart (cc)
level_down MB32 m e = let q : MB2 ≡ m = cc in rw (← q) refl
level_down MB512 m e = let q : MB32 ≡ m = cc in rw (← q) refl

pub level_none : (s : Size) → smaller_of s ≡ None → level_of s ≡ 0
level_none MB2 e = refl
level_none MB32 e = apart (cc)
level_none MB512 e = apart (cc)
