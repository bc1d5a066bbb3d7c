-- How long each line is, and each piece of it. Crate `dump_lines`.
use mathlib.Core.Path.{◌≡◌, ap, ◌∙◌}
use mathlib.Core.List.{List, [], ◌∷◌, ◌++◌}
use Prim.Native.Nat.{ℕ, ◌+◌, ◌≤◌, ◌<◌}
use native.Mathlib.Omega.{arith}
use lib.ListN.{length, length-append}
use Rattle.gpi.specs.declared.Gpi.{Gpi}
use Rattle.gpi.specs.declared.Gpi.TheVariants.{NoAccess, SystemAgent, NonSecureProtected, NoAccess6, NoAccess7}
use Rattle.gpi.specs.declared.Gpi.TheVariants.{Secure, NonSecure, Root, Realm, NonSecureOnly, Any}
use Rattle.config.specs.declared.Widths.{Widths}
use Rattle.resolve.specs.Refusals.{refusal_number}
use Rattle.resolve.proofs.Numbers.{refusal_number_lem}
use Rattle.dump_lines.specs.Digits.{hex, dec}
use Rattle.dump_lines.proofs.Bytes.{length-hex}
use Rattle.dump_lines.proofs.Decimal.{length-dec}
use Rattle.dump_lines.specs.declared.Run.{Run}
use Rattle.dump_lines.specs.Lines.{ascii, gpi_name, name, space, address, line, header, told}
use Rattle.std.specs.Prelude.{Err, Ok, Result}
use Rattle.resolve.specs.declared.Refusal.{Refusal}

length-gpi : (g : Gpi) → length (gpi_name g) ≤ 18
length-gpi NoAccess = omega arith
length-gpi SystemAgent = omega arith
length-gpi NonSecureProtected = omega arith
length-gpi NoAccess6 = omega arith
length-gpi NoAccess7 = omega arith
length-gpi Secure = omega arith
length-gpi NonSecure = omega arith
length-gpi Root = omega arith
length-gpi Realm = omega arith
length-gpi NonSecureOnly = omega arith
length-gpi Any = omega arith

-- a number below 100, as widths and refusals are
pub short_dec : (n : ℕ) → n < 100 → length (dec n) ≤ 2
short_dec n h = length-dec 1 n h

-- the longest name
pub length-name : (a : Result Gpi Refusal) → length (name a) ≤ 18
length-name (Ok g) = length-gpi g
length-name (Err r) = let n = (refusal_number_lem r).1 in let h = short_dec (refusal_number r) (omega arith) in omega arith

pub length-address : (x : ℕ) → length (address x) ≡ 14
unfolding address
length-address x = length-append (hex 13 x) space ∙ ap (λ (k : ℕ). k + 1) (length-hex 13 x)

pub length-line : (r : Run) → length (line r) ≡ 29 + length (name r.answer)
unfolding line
length-line r =
    let a = length-address r.start in let b = length-address r.last in
    simp length-append (omega arith)

pub length-header : (w : Widths) → length (header w) ≡ 18 + length (dec w.pps) + length (dec w.pgs) + length (dec w.l0gptsz)
unfolding header
length-header w =
    let a = length-append (dec w.pps) ((ascii " pgs=" ++ dec w.pgs) ++ ((ascii " l0=" ++ dec w.l0gptsz) ++ (10 ∷ []))) in
    let b = length-append (dec w.pgs) ((ascii " l0=" ++ dec w.l0gptsz) ++ (10 ∷ [])) in
    let d = length-append (dec w.l0gptsz) (10 ∷ []) in
    omega arith

pub length-told : (s : List ℕ) (n : ℕ) → length (told s n) ≡ length s + length (dec n) + 1
unfolding told
length-told s n = length-append (s ++ dec n) (10 ∷ []) ∙ ap (λ (k : ℕ). k + 1) (length-append s (dec n))

-- what measures a line
pub ruleset measured = (length-header, length-told)
