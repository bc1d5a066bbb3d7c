-- Worked examples of decimal numbers, by computation alone. Crate `dump_lines`.
use mathlib.Core.Path.{◌≡◌, refl}
use Rattle.dump_lines.specs.Digits.{digits, dec}
use Rattle.dump_lines.specs.Lines.{ascii}

small : (dec 0 ≡ ascii "0") × (dec 7 ≡ ascii "7") × (dec 10 ≡ ascii "10") × (dec 64 ≡ ascii "64") × (dec 100 ≡ ascii "100")
unfolding digits
small = (refl, refl, refl, refl, refl)

-- the largest numbers of 32 and of 64 bits
large : (dec 4294967295 ≡ ascii "4294967295") × (dec 18446744073709551615 ≡ ascii "18446744073709551615")
unfolding digits
large = (refl, refl)
