-- Tables that are shown: no refusal 1 to 4 shuts them out. Crate `dump_text`.
use mathlib.Core.Path.{◌≡◌, refl, sym, ap, ◌∙◌, subst}
use mathlib.Core.Bool.{Bool, true, false, cond}
use Prim.Native.Nat.{ℕ}
use native.Mathlib.Omega.{arith}
use borrow.Author.Tests.{ltb-false}
use lib.Dec.{ltb}
use lib.ListN.{length}
use Rattle.std.specs.Prelude.{Err, None, Ok, Result, Some}
use Rattle.config.specs.declared.Widths.{Widths}
use Rattle.config.specs.declared.ConfigError.{ConfigError}
use Rattle.config.specs.Fields.{configured_of}
use Rattle.config.specs.Index.{l0_entries}
use Rattle.resolve.specs.declared.Refusal.{Refusal}
use Rattle.resolve.specs.declared.Refusal.TheVariants.{FewL0Words, BadArena}
use Rattle.resolve.specs.declared.Place.{Place}
use Rattle.resolve.specs.Refusals.{arena_bad, config_refusal}
use Rattle.resolve.specs.Place.{located, place_of}
use Rattle.resolve.specs.Lent.{Lent}
use Rattle.gpt.specs.Lookup.{looked_number, looked_at, lookup_of}
use Rattle.dump_runs.specs.Inner.{Open}
use Rattle.dump_text.specs.Text.{shuts, opening_by, opening_of, first_number, refused_line}
use Rattle.dump_text.specs.Chunks.{one_step, open_steps, shown_steps, table_steps}

apart : {A : Type 0} → ◌≡◌ {A = ℕ} 0 1 → A
apart z = absurd (omega arith)

module _ (t : Lent) {w : Widths} where
  -- the tests 3 and 4 were not met
  fine : configured_of t.config ≡ Ok w → shuts (first_number t) ≡ false → Open t w
  unfolding lookup_of looked_at place_of located
  fine e f = go _ (ltb (length t.l0) (l0_entries w)) refl (arena_bad t.base (length t.arena)) refl (rw e at f)
    where
      go : (r : Result Place Refusal) (p : Bool) → ltb (length t.l0) (l0_entries w) ≡ p → (q : Bool) → arena_bad t.base (length t.arena) ≡ q
          → shuts (looked_number (looked_at t (cond p (Err FewL0Words) (cond q (Err BadArena) r)))) ≡ false → Open t w
      go r true g q h z = apart (cc)
      go r false g true h z = apart (cc)
      go r false g false h z = record { configured = e; enough = ltb-false _ _ g; arena = h }

  pub opened : opening_of t.config (first_number t) ≡ Some w → Open t w
  opened e = go (configured_of t.config) refl e
    where
      shown : (v : Widths) → configured_of t.config ≡ Ok v → (s : Bool) → shuts (first_number t) ≡ s → cond s None (Some v) ≡ Some w
          → Open t w
      shown v f true g h = apart (cc)
      shown v f false g h = let k : v ≡ w = cc in fine (subst (λ (u : Widths). configured_of t.config ≡ Ok u) k f) g

      go : (v : Result Widths ConfigError) → configured_of t.config ≡ v → opening_by v (first_number t) ≡ Some w → Open t w
      go (Ok v) f g = shown v f (shuts (first_number t)) refl g
      go (Err r) f g = apart (cc)

-- ---- the steps, by what `opens` found

module _ (t : Lent) where
  -- 1 and 2, of the configuration alone, are answered everywhere
  pub untaken : (e : ConfigError) → configured_of t.config ≡ Err e → lookup_of t 0 ≡ Err (config_refusal e)
  unfolding lookup_of looked_at place_of
  untaken e f = rw f refl

  pub shown-steps : {w : Widths} → opening_of t.config (first_number t) ≡ Some w → open_steps (lookup_of t) w ≡ table_steps t
  unfolding table_steps
  shown-steps f = ap (shown_steps t) (sym f)

  pub refused-steps : {n : ℕ} → n ≡ first_number t → opening_of t.config (first_number t) ≡ None → one_step (refused_line n) ≡ table_steps t
  unfolding table_steps
  refused-steps e f = ap (λ (m : ℕ). one_step (refused_line m)) e ∙ ap (shown_steps t) (sym f)
