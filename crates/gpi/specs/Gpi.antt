-- Definitions of `gpi`, after document 01, "Words": a GPI's number, and the sixteen-entry table of nibbles, five of them reserved.
use Rattle.std.specs.Prelude.{ℕ, List, [], ◌∷◌, Bool, true, false, get_or, None, Option, Some}
use Rattle.gpi.specs.declared.Gpi.{Gpi}
use Rattle.gpi.specs.declared.Gpi.TheVariants.{NoAccess, SystemAgent, NonSecureProtected, NoAccess6, NoAccess7, Secure, NonSecure}
use Rattle.gpi.specs.declared.Gpi.TheVariants.{Root, Realm, NonSecureOnly, Any}

-- "A GPI is one of 0 NoAccess, 4 SystemAgent, .."
abbrev pub num : Gpi → ℕ
num NoAccess = 0
num SystemAgent = 4
num NonSecureProtected = 5
num NoAccess6 = 6
num NoAccess7 = 7
num Secure = 8
num NonSecure = 9
num Root = 10
num Realm = 11
num NonSecureOnly = 13
num Any = 15

-- "a sixteen-entry table of nibbles, five of them reserved"
abbrev pub nibbles : List (Option Gpi)
nibbles =
    Some NoAccess ∷ None ∷ None ∷ None ∷
    Some SystemAgent ∷ Some NonSecureProtected ∷ Some NoAccess6 ∷ Some NoAccess7 ∷
    Some Secure ∷ Some NonSecure ∷ Some Root ∷ Some Realm ∷
    None ∷ Some NonSecureOnly ∷ None ∷ Some Any ∷ []

-- the GPI of a number; "unknown nibble or size refuses", and so does any number past the table
abbrev pub gpi_at : ℕ → Option Gpi
gpi_at n = get_or nibbles n None

abbrev pub is_known : Option Gpi → Bool
is_known (Some g) = true
is_known None = false

-- the number is a GPI's
abbrev pub known_at : ℕ → Bool
known_at n = is_known (gpi_at n)
