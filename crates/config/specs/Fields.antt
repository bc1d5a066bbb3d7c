-- Document 01, "What a call is lent" and "Numbers handed back": the widths that the fields mean, the refusals 1, 2, 1 in their order, and
-- which GPIs are supported. Crate `config`.
use Rattle.std.specs.Prelude.{Bool, true, cond, ◌&&◌, [], ◌∷◌, ℕ, ltb, get_or, Err, None, Ok, Option, Result, Some}
use Rattle.gpi.specs.declared.Gpi.{Gpi}
use Rattle.gpi.specs.declared.Gpi.TheVariants.{NoAccess, SystemAgent, NonSecureProtected, NoAccess6, NoAccess7}
use Rattle.gpi.specs.declared.Gpi.TheVariants.{Secure, NonSecure, Root, Realm, NonSecureOnly, Any}
use Rattle.config.specs.declared.Config.{Config}
use Rattle.config.specs.declared.Widths.{Widths}
use Rattle.config.specs.declared.ConfigError.{ConfigError}
use Rattle.config.specs.declared.ConfigError.TheVariants.{GptNotInitialized, InvalidConfiguration}

-- the table of PPS and its address bits
abbrev pub pps_width : ℕ → Option ℕ
pps_width n = get_or (Some 32 ∷ Some 36 ∷ Some 40 ∷ Some 42 ∷ Some 44 ∷ Some 48 ∷ Some 52 ∷ []) n None

-- "PGS 0, 1, 2 mean 12, 16, 14 bits: PGS 1 is 64 KB."
abbrev pub pgs_width : ℕ → Option ℕ
pgs_width n = get_or (Some 12 ∷ Some 16 ∷ Some 14 ∷ []) n None

-- "L0GPTSZ 0, 4, 6, 9 mean 30, 34, 36, 39 bits."
abbrev pub l0gptsz_width : ℕ → Option ℕ
l0gptsz_width n =
    get_or (Some 30 ∷ None ∷ None ∷ None ∷ Some 34 ∷ None ∷ Some 36 ∷ None ∷ None ∷ Some 39 ∷ []) n None

-- 1: "PPS, PGS or L0GPTSZ not listed"; with a listed one it goes on
abbrev pub listed : Option ℕ → (ℕ → Result Widths ConfigError) → Result Widths ConfigError
listed (Some b) next = next b
listed None next = Err InvalidConfiguration

-- "Order: field values (1), 2, widths (1)"; 2: "GPC is off"; widths: "PPS bits below L0GPTSZ bits"
unfoldable pub configured_of : Config → Result Widths ConfigError
configured_of c =
    listed (pps_width c.pps) (λ p.
    listed (pgs_width c.pgs) (λ g.
    listed (l0gptsz_width c.l0gptsz) (λ l.
    cond c.gpc (cond (ltb p l) (Err InvalidConfiguration) (Ok (record { pps = p; pgs = g; l0gptsz = l }))) (Err GptNotInitialized))))

-- the paper's number of each case
abbrev pub number : Result Widths ConfigError → ℕ
number (Ok w) = 0
number (Err InvalidConfiguration) = 1
number (Err GptNotInitialized) = 2

-- "Supported: 4, 5, 6, 7 need SA, NSP, NA6, NA7 in turn and GDI; 13 needs NSO and GPC2; all others always."
abbrev pub supported_of : Config → Gpi → Bool
supported_of c NoAccess = true
supported_of c SystemAgent = c.sa && c.gdi
supported_of c NonSecureProtected = c.nsp && c.gdi
supported_of c NoAccess6 = c.na6 && c.gdi
supported_of c NoAccess7 = c.na7 && c.gdi
supported_of c Secure = true
supported_of c NonSecure = true
supported_of c Root = true
supported_of c Realm = true
supported_of c NonSecureOnly = c.nso && c.gpc2
supported_of c Any = true
