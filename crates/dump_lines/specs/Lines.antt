-- The bytes of the dump's lines: document 01, "Dump image and text". Crate `dump_lines`.
use Rattle.std.specs.Prelude.{List, [], ◌∷◌, ◌++◌, ℕ}
use Prim.Native.Char.{code}
use Prim.Native.String.{String, [] as end, ◌∷◌ as ◌then◌}
use Rattle.gpi.specs.declared.Gpi.{Gpi}
use Rattle.gpi.specs.declared.Gpi.TheVariants.{NoAccess, SystemAgent, NonSecureProtected, NoAccess6, NoAccess7}
use Rattle.gpi.specs.declared.Gpi.TheVariants.{Secure, NonSecure, Root, Realm, NonSecureOnly, Any}
use Rattle.config.specs.declared.Widths.{Widths}
use Rattle.resolve.specs.Refusals.{refusal_number}
use Rattle.dump_lines.specs.Digits.{hex, dec}
use Rattle.dump_lines.specs.declared.Run.{Run}
use Rattle.std.specs.Prelude.{Err, Ok, Result}
use Rattle.resolve.specs.declared.Refusal.{Refusal}

-- a text's bytes
abbrev pub ascii : String → List ℕ
ascii end = []
ascii (c then s) = code c ∷ ascii s

-- "0 NoAccess, 4 SystemAgent, .."
abbrev pub gpi_name : Gpi → List ℕ
gpi_name NoAccess = ascii "NoAccess"
gpi_name SystemAgent = ascii "SystemAgent"
gpi_name NonSecureProtected = ascii "NonSecureProtected"
gpi_name NoAccess6 = ascii "NoAccess6"
gpi_name NoAccess7 = ascii "NoAccess7"
gpi_name Secure = ascii "Secure"
gpi_name NonSecure = ascii "NonSecure"
gpi_name Root = ascii "Root"
gpi_name Realm = ascii "Realm"
gpi_name NonSecureOnly = ascii "NonSecureOnly"
gpi_name Any = ascii "Any"

-- a lookup's answer: the GPI's name, or `refused N`
abbrev pub name : Result Gpi Refusal → List ℕ
name (Ok g) = gpi_name g
name (Err r) = ascii "refused " ++ dec (refusal_number r)

-- "every line ends in a line feed"
abbrev pub feed : List ℕ
feed = 10 ∷ []

abbrev pub space : List ℕ
space = 32 ∷ []

-- thirteen digits of an address, and a space
unfoldable pub address : ℕ → List ℕ
address x = hex 13 x ++ space

-- `0000040000000 000007fffffff Root`: the first address and the last, and what they answer
unfoldable pub line : Run → List ℕ
line r = address r.start ++ (address r.last ++ (name r.answer ++ feed))

-- `gpt pps=32 pgs=16 l0=30`: the address bits
unfoldable pub header : Widths → List ℕ
header w = (ascii "gpt pps=" ++ dec w.pps) ++ ((ascii " pgs=" ++ dec w.pgs) ++ ((ascii " l0=" ++ dec w.l0gptsz) ++ feed))

-- `bad image N`, `refused N`
unfoldable pub told : List ℕ → ℕ → List ℕ
told what n = (what ++ dec n) ++ feed
