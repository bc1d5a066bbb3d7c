-- The flags as one number, written and read: each undoes the other, whatever their count. Crate `config`.
use mathlib.Core.Path.{◌≡◌, sym, ap, ap₂, ◌∙◌}
use mathlib.Core.Bool.{Bool, true, false, cond}
use mathlib.Core.List.{List, [], ◌∷◌}
use Prim.Native.Nat.{ℕ, zero, suc, ◌+◌, ◌*◌, ◌/◌, ◌%◌, ◌^◌, ◌<◌}
use native.Mathlib.Decide.{ℕ_discrete}
use native.Mathlib.Nat.{pow-suc, zero-div, div-div-eq-div-mul, div-one}
use native.Mathlib.Omega.{arith}
use borrow.Author.Tests.{eq-eqb, ne_eqb}
use lib.Arith.{lt-one}
use lib.Dec.{eqb}
use lib.ListN.{get_or}
use Rattle.config.specs.declared.Config.{Config}
use Rattle.config.specs.Flags.{flag_at, config_of, in_order, bits, flags_of}

-- ---- written, then read

-- the bits above the lowest
above : (f k : ℕ) → f / 2 ^ suc k ≡ f / 2 / 2 ^ k
above f k = ap (λ (d : ℕ). f / d) (pow-suc 2 k ∙ omega arith) ∙ sym (div-div-eq-div-mul f 2 (2 ^ k))

bit_back : (bs : List Bool) (k : ℕ) → flag_at (bits bs) k ≡ get_or bs k false
unfolding bits
bit_back [] k = ne_eqb (0 / 2 ^ k % 2) 1 (λ e. let z = zero-div (2 ^ k) in absurd (omega arith))
bit_back (true ∷ bs) zero = eq-eqb ((1 + 2 * bits bs) / 2 ^ 0 % 2) 1 (omega arith)
bit_back (false ∷ bs) zero = ne_eqb ((0 + 2 * bits bs) / 2 ^ 0 % 2) 1 (λ e. absurd (omega arith))
bit_back (b ∷ bs) (suc k) = ap (λ (m : ℕ). eqb (m % 2) 1) (above (bits (b ∷ bs)) k ∙ ap (λ (m : ℕ). m / 2 ^ k) (half b)) ∙ bit_back bs k
  where
    half : (c : Bool) → bits (c ∷ bs) / 2 ≡ bits bs
    half true = omega arith
    half false = omega arith

pub flags_back : (x : Config) → config_of x.pps x.pgs x.l0gptsz (flags_of x) ≡ x
flags_back x =
    λ i. record {
      pps = x.pps;
      pgs = x.pgs;
      l0gptsz = x.l0gptsz;
      gpc = bit_back (in_order x) 0 i;
      sa = bit_back (in_order x) 1 i;
      nsp = bit_back (in_order x) 2 i;
      na6 = bit_back (in_order x) 3 i;
      na7 = bit_back (in_order x) 4 i;
      nso = bit_back (in_order x) 5 i;
      gdi = bit_back (in_order x) 6 i;
      gpc2 = bit_back (in_order x) 7 i;
    }

-- ---- read, then written

abbrev from : ℕ → ℕ → ℕ → List Bool
from f k zero = []
from f k (suc n) = flag_at f k ∷ from f (suc k) n

lowest : (m : ℕ) → cond (eqb (m % 2) 1) 1 0 ≡ m % 2
lowest m = go (ℕ_discrete (m % 2) 1)
  where
    go : Dec (m % 2 ≡ 1) → cond (eqb (m % 2) 1) 1 0 ≡ m % 2
    go (yes e) = rw (eq-eqb _ _ e) (omega arith)
    go (no e) = rw (ne_eqb _ _ e) (omega arith)

bits-again : (f k n : ℕ) → f / 2 ^ k < 2 ^ n → bits (from f k n) ≡ f / 2 ^ k
unfolding bits
bits-again f k zero h = sym (lt-one h)
bits-again f k (suc n) h =
    let u : f / 2 ^ suc k ≡ f / 2 ^ k / 2 = ap (λ (d : ℕ). f / d) (pow-suc 2 k) ∙ sym (div-div-eq-div-mul f (2 ^ k) 2) in
    let p = pow-suc 2 n in
    ap₂ (λ (x y : ℕ). x + 2 * y) (lowest (f / 2 ^ k)) (bits-again f (suc k) n (omega arith)) ∙ omega arith

pub flags_again : (p g l f : ℕ) → f < 2 ^ 8 → flags_of (config_of p g l f) ≡ f
flags_again p g l f h = bits-again f 0 8 (omega arith) ∙ div-one f
