-- Demand 3's premises can be met, by arrangement B with C7, and by a set that answers 10.
use mathlib.Core.Path.{◌≡◌, refl, sym, ap, ◌∙◌, subst}
use mathlib.Core.List.{List, ◌∷◌}
use Prim.Native.Nat.{ℕ, zero, suc, ◌+◌, ◌*◌, ◌<◌, ◌^◌}
use native.Mathlib.Decide.{dec_lt}
use native.Mathlib.Omega.{arith}
use lib.Dec.{lit<}
use lib.ListN.{length, get_or, take, drop, replicate, get_or-replicate, length-replicate, get_or-eq_default}
use lib.Seq.{take_all}
use Rattle.std.specs.Prelude.{Ok, Some}
use Rattle.gpi.specs.declared.Gpi.{Gpi}
use Rattle.gpi.specs.declared.Gpi.TheVariants.{Root}
use Rattle.gpi.specs.declared.Size.{Size}
use Rattle.gpi.specs.declared.Size.TheVariants.{MB512}
use Rattle.pa.specs.declared.PA.{PA}
use Rattle.pa.specs.Pa.{pa}
use Rattle.theory.specs.Normal.{at, In}
use Rattle.theory.specs.Arena.{table_at}
use Rattle.granules.specs.Nibs.{nibs}
use Rattle.l0.specs.declared.L0Entry.TheVariants.{Table}
use Rattle.l0.specs.L0.{l0_of}
use Rattle.l1.specs.declared.L1Entry.TheVariants.{Contiguous}
use Rattle.l1.specs.L1.{l1_of, read_at}
use Rattle.config.specs.declared.Widths.{Widths}
use Rattle.config.specs.Fields.{configured_of}
use Rattle.config.specs.Index.{l1_words, size_words}
use Rattle.resolve.specs.B.{fields_b, l0_b, arena_b, in_b}
use Rattle.gpt.specs.Set.{changed_number}
use Rattle.outcomes.specs.Cases.{change}
use Rattle.outcomes.proofs.Starred.{opened, starred}
use Rattle.cut_and_mend.specs.Demand3.{answers-0, answers-10, EntryAgrees, Tables}
use Rattle.cut_and_mend.specs.Witness.{spoilt, Met}

-- ---- the L0 words of B

abbrev pub widths : Widths
widths = record { pps = 32; pgs = 16; l0gptsz = 30 }

only_widths : (w : Widths) → configured_of fields_b ≡ Ok w → widths ≡ w
unfolding configured_of
only_widths w e = let k : Ok widths ≡ Ok w = e in cc

none : {A : Type 0} → ◌≡◌ {A = ℕ} 0 1 → A
none z = absurd (omega arith)

-- only the entry 1 names a table
pub only_entry : (e : ℕ) (a : PA) → l0_of (get_or l0_b e 0) ≡ Some (Table a) → e ≡ 1
unfolding l0_of
only_entry zero a h = none (cc)
only_entry (suc zero) a h = refl
only_entry (suc (suc zero)) a h = none (cc)
only_entry (suc (suc (suc zero))) a h = none (cc)
only_entry (suc (suc (suc (suc e)))) a h = none (cc)

-- and it stands at the start of the arena
only_start : (e o : ℕ) → l0_of (get_or l0_b e 0) ≡ Some (Table (pa (0x8000_0000 + 8 * o))) → o ≡ 0
unfolding l0_of
only_start e o h =
    let k : Some (Table (pa 0x8000_0000)) ≡ Some (Table (pa (0x8000_0000 + 8 * o))) =
    sym (ap (λ (n : ℕ). l0_of (get_or l0_b n 0)) (only_entry e (pa (0x8000_0000 + 8 * o)) h)) ∙ h in
    let k : pa 0x8000_0000 ≡ pa (0x8000_0000 + 8 * o) = cc in
    let k : 0x8000_0000 ≡ 0x8000_0000 + 8 * o = ap (λ (a : PA). a.0) k in
    omega arith

-- ---- an arena of 1,024 words with these

module _ (A : List ℕ) (len : length A ≡ 1024)
    (agree : (i : ℕ) → i < 1024 → EntryAgrees widths A i) (words : (k : ℕ) → k < 1024 → at A k < 2 ^ 64) where
  whole : take 1024 (drop 0 A) ≡ A
  whole = take_all 1024 A (omega arith)

  tables : Tables (in_b A)
  tables =
      record {
        apart = λ w c. record { apart = λ e f o p k s t h i. only_entry e _ s.names ∙ sym (only_entry f _ t.names) };
        agree = λ w c e o s i b.
            let q = only_widths w c in
            subst (λ (v : Widths). EntryAgrees v (table_at o (l1_words v) A) i) q
            (rw (only_start e o s.names, whole) (agree i (rw (← q) at b)));
        words = λ k. go k (dec_lt k 1024);
      }
    where
      go : (k : ℕ) → Dec (k < 1024) → at A k < 2 ^ 64
      go k (yes b) = words k b
      go k (no b) = rw (get_or-eq_default A 0 {n = k} (omega arith)) (lit< tt)

-- ---- B: every word is 0x3A1

entry_b : (g : Gpi) (s : Size) → l1_of 0x3A1 ≡ Some (Contiguous g s) → (Root ≡ g) × (MB512 ≡ s)
unfolding l1_of
entry_b g s e = (cc, cc)

reads-b : (n : ℕ) → read_at 0x3A1 n ≡ Some Root
unfolding l1_of
reads-b n = refl

module _ (A : List ℕ) (same : (k : ℕ) → k < 1024 → at A k ≡ 0x3A1) where
  agrees-b : (i : ℕ) → i < 1024 → EntryAgrees widths A i
  agrees-b i b =
      record {
        agrees = λ g s e k h n m.
            let q = entry_b g s (ap l1_of (sym (same i b)) ∙ e) in
            let r : In 512 i k = subst (λ (z : Size). In (size_words widths z) i k) (sym q.1) h in
            let lo = r.from in
            let hi = r.to in
            ap (λ (v : ℕ). read_at v n) (same k (omega arith)) ∙ reads-b n ∙ ap Some q.0;
      }

-- ---- the spoilt arena: no word is contiguous

flat-a : (g : Gpi) (s : Size) → l1_of 0xAAAA_AAAA_AAAA_AAAA ≡ Some (Contiguous g s) → ⊥
unfolding l1_of nibs
flat-a g s e = none (cc)

flat-2 : (g : Gpi) (s : Size) → l1_of 0x2 ≡ Some (Contiguous g s) → ⊥
unfolding l1_of nibs
flat-2 g s e = none (cc)

-- the word at an index of two words and a run of one
module _ (P : ℕ → Type 0) (a b v n : ℕ) (pa : P a) (pb : P b) (pv : P v) where
  each_word : (k : ℕ) → k < 2 + n → P (at (a ∷ b ∷ replicate n v) k)
  each_word zero h = pa
  each_word (suc zero) h = pb
  each_word (suc (suc k)) h = rw (get_or-replicate n k v 0 (omega arith)) pv

pub met : Met
met =
    record {
      tables_b = tables arena_b (length-replicate {A = ℕ} 1024 0x3A1) (agrees-b arena_b (λ k h. get_or-replicate {A = ℕ} 1024 k 0x3A1 0 h))
          (λ k h. rw (get_or-replicate {A = ℕ} 1024 k 0x3A1 0 h) (lit< tt));
      answer_0 = answers-0 starred.c7.number;
      tables_spoilt = tables spoilt (ap (λ (n : ℕ). 2 + n) (length-replicate {A = ℕ} 1022 0xAAAA_AAAA_AAAA_AAAA))
          (λ i b. record {
            agrees = λ g s e. absurd (each_word (λ v. (g : Gpi) (s : Size) → l1_of v ≡ Some (Contiguous g s) → ⊥)
                0xAAAA_AAAA_AAAA_AAAA 0x2 0xAAAA_AAAA_AAAA_AAAA 1022 flat-a flat-2 flat-a i b g s e);
          })
          (each_word (λ v. v < 2 ^ 64) 0xAAAA_AAAA_AAAA_AAAA 0x2 0xAAAA_AAAA_AAAA_AAAA 1022 (lit< tt) (lit< tt) (lit< tt));
      answer_10 = answers-10 spoilt-number;
    }
  where
    spoilt-number : changed_number (change (in_b spoilt) 0x4000_0000 10).answer ≡ 10
    spoilt-number = unfold opened in refl
