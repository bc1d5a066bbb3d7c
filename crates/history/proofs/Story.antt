-- The history theorem's premises can be met: document 01's arrangement B, with a set, a set cut after any number of stores, and a mend of
-- any limit.
use mathlib.Core.Path.{◌≡◌, refl, sym, ap, ◌∙◌}
use mathlib.Core.Bool.{Bool, true, cond}
use mathlib.Core.List.{List, [], ◌∷◌}
use Prim.Native.Nat.{ℕ, ◌+◌, ◌*◌, ◌<◌}
use native.Mathlib.Omega.{arith}
use lib.Dec.{ltb, lit<}
use lib.ListN.{length, take, length-replicate, get_or-replicate}
use Rattle.std.specs.Prelude.{Ok}
use Rattle.gpi.specs.declared.Gpi.TheVariants.{Root, Realm}
use Rattle.theory.specs.Format.{Format, Laws, gpi}
use Rattle.theory.specs.Normal.{at, span}
use Rattle.theory.specs.Arena.{table_at}
use Rattle.theory.specs.Whole.{Whole}
use Rattle.theory.proofs.Ranges.{in_table}
use Rattle.theory.proofs.Arena.{table_word, length-table}
use Rattle.config.specs.Fields.{configured_of}
use Rattle.config.specs.Index.{l1_words}
use Rattle.config.specs.Format.{format_of}
use Rattle.config.proofs.Format.{format_laws}
use Rattle.resolve.specs.B.{fields_b, arena_b, arrangement_b}
use Rattle.gpt.specs.Lookup.{lookup_of}
use Rattle.outcomes.specs.Cases.{log}
use Rattle.outcomes.proofs.Starred.{opened, starred}
use Rattle.cut_and_mend.specs.Demand3.{TableAt, answers-0, stores_before}
use Rattle.cut_and_mend.proofs.Witness.{widths, only_entry}
use Rattle.history.specs.History.{Act, sets, cuts, mends, start, act, acts, Allowed, Sound, Kept}
use Rattle.history.proofs.History.{history}

-- ---- the arena

-- a table of equal words is whole
equal_whole : (F : Format) → Laws F → (u : ℕ) → 0 < u → (t : List ℕ) (m : ℕ) → length t ≡ m * span u 2 → (v : ℕ)
    → ((k : ℕ) → k < length t → at t k ≡ v) → Whole F u t
equal_whole F L u u-pos t m regions v same =
    record {
      whole = λ i l b e k h.
          let w : at t k ≡ at t i = same k (in_table u u-pos t m regions i b l k (L.size_small (at t i) l e) h) ∙ sym (same i b) in
          record { size = ap F.size w; gpi = ap (gpi F) w };
    }

table_whole : (e o : ℕ) → TableAt widths arrangement_b e o → Whole (format_of fields_b) 2 (table_at o (l1_words widths) arena_b)
unfolding span
table_whole e o a =
    let n : length (table_at o 1024 arena_b) ≡ 1024 = length-table o 1024 arena_b a.inside in
    let long : length arena_b ≡ 1024 = length-replicate {A = ℕ} 1024 0x3A1 in
    equal_whole (format_of fields_b) (format_laws fields_b) 2 (lit< tt) (table_at o 1024 arena_b) 2 n 0x3A1
    (λ k b. table_word o 1024 arena_b k (omega arith) ∙ get_or-replicate 1024 (o + k) 0x3A1 0 (omega (arith, a.inside)))

-- all of it may be marked
pub ready : (marks : ℕ → Bool) → Sound widths arrangement_b marks
unfolding configured_of
ready marks =
    record {
      configured = refl;
      apart = record { apart = λ e f o p k s t h i. only_entry e _ s.names ∙ sym (only_entry f _ t.names) };
      whole = λ e o a m. table_whole e o a;
    }

-- ---- the acts: C7, then C8 cut after k stores, then a mend of the limit n

abbrev pub story : ℕ → ℕ → List Act
story k n =
    sets (record { address = 0x4000_0000; gpi = 11; log = log })
    ∷ cuts (record { address = 0x4000_0000; gpi = 10; log = log }) k
    ∷ mends 0x4000_0000 n
    ∷ []

pub allowed : (k n : ℕ) → Allowed widths (story k n) (start arrangement_b (λ _. true))
unfolding act
allowed k n = (
  record { is_marked = refl; answers = answers-0 starred.c7.number },
  (record { is_marked = refl; answers = answers-0 starred.c8.number }, (tt, tt)),
)

-- So the theorem speaks of them, at every moment.
pub told : (k n j : ℕ) → Kept widths (acts widths (take j (story k n)) (start arrangement_b (λ _. true)))
told k n j = history widths arrangement_b (λ _. true) (ready (λ _. true)) (story k n) (allowed k n) j

-- C8's granule store is its first: cut before it, the address looks up as C7 left it, cut after it, as C8 asks; and so it stays, whatever
-- the mend.
pub target_told : (k n : ℕ)
    → lookup_of (acts widths (story k n) (start arrangement_b (λ _. true))).lent 0x4000_0000 ≡ cond (ltb 0 k) (Ok Root) (Ok Realm)
unfolding acts act stores_before opened
target_told k n = (told k n 3).looks 0x4000_0000
