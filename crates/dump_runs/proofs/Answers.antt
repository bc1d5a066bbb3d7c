-- An answer's number tells the answer.
use mathlib.Core.Path.{◌≡◌, refl, sym, ap, ◌∙◌}
use mathlib.Core.Bool.{Bool, true, false, cond, not, true≢false}
use mathlib.Core.List.{List, [], ◌∷◌}
use Prim.Native.Nat.{ℕ, ◌/◌}
use borrow.Author.Tests.{eqb-true, not-true, not-false}
use denote.Enum.Bare.{sameb, same_true, true_same}
use lib.Dec.{ltb}
use lib.ListN.{get_or}
use Rattle.std.specs.Result.{result_eq}
use Rattle.std.specs.Prelude.{Err, None, Ok, Option, Result, Some}
use Rattle.gpi.specs.declared.Gpi.{Gpi}
use Rattle.gpi.specs.declared.Gpi.TheVariants.{NoAccess, SystemAgent, NonSecureProtected, NoAccess6, NoAccess7}
use Rattle.gpi.specs.declared.Gpi.TheVariants.{Secure, NonSecure, Root, Realm, NonSecureOnly, Any}
use Rattle.gpi.specs.Gpi.{gpi_at}
use Rattle.gpi.specs.contracts.Gpi as gpi
use Rattle.resolve.specs.declared.Refusal.{Refusal}
use Rattle.resolve.specs.declared.Refusal.TheVariants.{InvalidConfiguration, GptNotInitialized, FewL0Words, BadArena}
use Rattle.resolve.specs.declared.Refusal.TheVariants.{ShortLog, InvalidRequest, InvalidL0Entry, OutsideArena, InvalidL1Entry}
use Rattle.resolve.specs.contracts.Refusal as refusal
use Rattle.dump_runs.specs.Runs.{code_of, alike}

-- the answer of a number
abbrev refusals : List Refusal
refusals = InvalidConfiguration ∷ InvalidConfiguration ∷ GptNotInitialized ∷ FewL0Words ∷ BadArena ∷ ShortLog ∷ InvalidRequest ∷
    InvalidL0Entry ∷ OutsideArena ∷ InvalidL1Entry ∷ []

abbrev granted : Option Gpi → Result Gpi Refusal
granted (Some g) = Ok g
granted None = Err InvalidConfiguration

abbrev answer : ℕ → Result Gpi Refusal
answer n = cond (ltb n 16) (granted (gpi_at n)) (Err (get_or refusals (n / 16) InvalidConfiguration))

told : (a : Result Gpi Refusal) → answer (code_of a) ≡ a
told (Ok NoAccess) = refl
told (Ok SystemAgent) = refl
told (Ok NonSecureProtected) = refl
told (Ok NoAccess6) = refl
told (Ok NoAccess7) = refl
told (Ok Secure) = refl
told (Ok NonSecure) = refl
told (Ok Root) = refl
told (Ok Realm) = refl
told (Ok NonSecureOnly) = refl
told (Ok Any) = refl
told (Err InvalidConfiguration) = refl
told (Err GptNotInitialized) = refl
told (Err FewL0Words) = refl
told (Err BadArena) = refl
told (Err ShortLog) = refl
told (Err InvalidRequest) = refl
told (Err InvalidL0Entry) = refl
told (Err OutsideArena) = refl
told (Err InvalidL1Entry) = refl

-- two answers of one number are equal ..
pub code-tells : (a b : Result Gpi Refusal) → code_of a ≡ code_of b → a ≡ b
code-tells a b e = sym (told a) ∙ ap answer e ∙ told b

-- .. so neighbours share a run exactly if their answers are equal
pub alike-equal : (a b : Result Gpi Refusal) → alike a b ≡ true → a ≡ b
alike-equal a b e = code-tells a b (eqb-true (code_of a) (code_of b) e)

-- ---- what `!=` of two answers says

abbrev pub equal : Result Gpi Refusal → Result Gpi Refusal → Bool
equal = result_eq (sameb gpi.the_type) (sameb refusal.the_type)

equal-true : (a b : Result Gpi Refusal) → equal a b ≡ true → a ≡ b
equal-true (Ok g) (Ok h) e = ap (λ (k : Gpi). Ok k) (same_true gpi.the_type tt g h e)
equal-true (Ok g) (Err r) e = absurd (true≢false (sym e))
equal-true (Err r) (Ok g) e = absurd (true≢false (sym e))
equal-true (Err r) (Err q) e = ap (λ (k : Refusal). Err k) (same_true refusal.the_type tt r q e)

equal-refl : (a : Result Gpi Refusal) → equal a a ≡ true
equal-refl (Ok g) = true_same gpi.the_type g g refl
equal-refl (Err r) = true_same refusal.the_type r r refl

pub differs-false : (a b : Result Gpi Refusal) → not (equal a b) ≡ false → a ≡ b
differs-false a b e = equal-true a b (not-false (equal a b) e)

pub differs-true : (a b : Result Gpi Refusal) → not (equal a b) ≡ true → a ≡ b → ⊥
differs-true a b e f =
    true≢false (sym (equal-refl b) ∙ ap (λ (x : Result Gpi Refusal). equal x b) (sym f) ∙ not-true (equal a b) e)
