-- DEMAND 3, the theorem over the definitions of lookup, set, mend and check: `demand3` under the demand's own premises, `promise` under
-- less.
use mathlib.Core.Path.{sym, ap, ◌∙◌}
use mathlib.Core.List.{List}
use Prim.Native.Nat.{ℕ, ◌+◌, ◌<◌, ◌^◌}
use native.Mathlib.Decide.{dec_lt}
use native.Mathlib.Omega.{arith}
use lib.Dec.{lit<}
use lib.ListN.{length-take, get_or-eq_default}
use Rattle.gpi.proofs.Rules.{num-at}
use Rattle.theory.specs.Normal.{at}
use Rattle.theory.specs.Arena.{table_at}
use Rattle.theory.proofs.Arena.{table_word}
use Rattle.config.specs.Index.{l0_index, l1_words, l1_index}
use Rattle.config.proofs.Bounds.{listed-widths}
use Rattle.config.proofs.Geometry.{l1_in}
use Rattle.resolve.specs.Lent.{Lent}
use Rattle.resolve.proofs.Found.{own_place}
use Rattle.gpt.specs.Lookup.{looked_number, looked_gpi}
use Rattle.gpt.specs.Set.{set_of, changed_number}
use Rattle.cut_and_mend.specs.Demand3.{Answers0or10, Tables, Ready, Demand3}
use Rattle.cut_and_mend.proofs.Agreement.{agrees_01}
use Rattle.cut_and_mend.proofs.Happened.{happened}
use Rattle.cut_and_mend.proofs.Cut.{all_made, granule_store_made, outside, old, new, mended, checked, the_one}

-- The theorem: only the table of the target must share no word with another entry's, and only the entry at the target must agree.
pub promise : (q : Lent) (log : List ℕ) (x g : ℕ) → Answers0or10 (changed_number (set_of q log x g).answer) → Ready q x
    → Demand3 q x g (set_of q log x g)
promise q log x g a ready =
    let p = happened q log x g a in
    let h = p.2 in
    record {
      widths = p.0;
      configured = h.found.configured;
      site = p.1;
      place = own_place h.found;
      all_made = all_made h;
      granule_store_made = granule_store_made h;
      outside = outside h ready;
      old = λ k y e. old h ready k y;
      new_number = λ k y e m. ap looked_number (new h ready k y e m);
      new_gpi = λ k y e m. ap looked_gpi (new h ready k y e m) ∙ sym (num-at g h.gpi h.known);
      mended = mended h ready;
      checked = checked h ready;
      the_one = the_one h ready;
    }

-- ---- in the demand's words

-- the words of a table are words of the arena; past its end there is 0
table_words : (A : List ℕ) → ((k : ℕ) → at A k < 2 ^ 64) → (o n k : ℕ) → at (table_at o n A) k < 2 ^ 64
table_words A h o n k = go (dec_lt k n)
  where
    go : Dec (k < n) → at (table_at o n A) k < 2 ^ 64
    go (yes b) = rw (table_word o n A k b) (h (o + k))
    go (no b) = rw (get_or-eq_default (table_at o n A) 0 {n = k} (rw length-take (omega arith))) (lit< tt)

pub tables_ready : (q : Lent) (x : ℕ) → Tables q → Ready q x
tables_ready q x t =
    record {
      apart = λ w e o f p k. (t.apart w e).apart (l0_index w x) f o p k;
      agree = λ w e o i.
          let h = listed-widths q.config w e in
          agrees_01 w h (table_at o (l1_words w) q.arena) (table_words q.arena t.words o (l1_words w)) (l1_index w x)
          (t.agree w e (l0_index w x) o i (l1_index w x) (l1_in w h x));
    }

-- "Take any tables where no two L0 entries' L1 tables share a word and each contiguous entry agrees with every entry in its range. Cut a
-- set that answers 0 or 10 after any number of its stores." The rest of the demand is the claim, `Demand3`.
pub demand3 : (q : Lent) (log : List ℕ) (x g : ℕ) → Tables q → Answers0or10 (changed_number (set_of q log x g).answer)
    → Demand3 q x g (set_of q log x g)
demand3 q log x g t a = promise q log x g a (tables_ready q x t)
