-- Definitions of `pa`, after document 01, "Port order": addresses and their signed distance.
use Rattle.std.specs.Prelude.{cond, ◌&&◌, ℕ, ◌*◌, ◌/◌, ◌^◌, ltb, ℤ, pos, ◌-ℤ◌, None, Option, Some}
use Rattle.pa.specs.declared.PA.{PA}

-- the address of a number
abbrev pub pa : ℕ → PA
pa a = record { 0 = a }

-- the largest multiple of n that is not above a (of 0 that is 0): `align_below` and `align_largest` show it
abbrev pub aligned_down : ℕ → ℕ → ℕ
aligned_down a n = a / n * n

-- "`PA - PA` stays a signed distance, for addresses below 2^52, else refused"
abbrev pub distance_of : ℕ → ℕ → Option ℤ
distance_of a b = cond (ltb a (2 ^ 52) && ltb b (2 ^ 52)) (Some (pos a -ℤ pos b)) None

-- the paper's number and distance of each case: "(6, distance 0)"
abbrev pub number : Option ℤ → ℕ
number (Some d) = 0
number None = 6

abbrev pub distance : Option ℤ → ℤ
distance (Some d) = d
distance None = pos 0
