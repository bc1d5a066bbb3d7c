-- What is left of a text, as a fact about the definitions: which line comes next, and that the places rise. Crate `dump_text`.
use mathlib.Core.Path.{◌≡◌, refl, sym, ap, ◌∙◌}
use mathlib.Core.Bool.{Bool, true, false, cond}
use mathlib.Core.List.{List, [], ◌∷◌, ◌++◌, append-nil, map}
use Prim.Native.Nat.{ℕ, ◌+◌, ◌-◌, ◌≤◌, ◌<◌, ◌^◌}
use native.Mathlib.Decide.{dec_lt, ℕ_discrete}
use native.Mathlib.Nat.{pos_of_ne-zero}
use native.Mathlib.Omega.{arith}
use borrow.Author.Tests.{eq-eqb, ne_eqb}
use lib.Dec.{lit<}
use lib.ListN.{length}
use lib.Pow.{pow_mono}
use Rattle.std.specs.Prelude.{Err, None, Ok, Option, Result, Some}
use Rattle.gpi.specs.declared.Gpi.{Gpi}
use Rattle.config.specs.declared.Widths.{Widths}
use Rattle.config.specs.declared.ConfigError.{ConfigError}
use Rattle.config.specs.Fields.{configured_of}
use Rattle.config.specs.Widths.{Listed}
use Rattle.config.proofs.Bounds.{listed-widths}
use Rattle.resolve.specs.declared.Refusal.{Refusal}
use Rattle.resolve.specs.Lent.{Lent}
use Rattle.resolve.proofs.Numbers.{refusal_number_lem}
use Rattle.gpt.specs.Lookup.{looked_number, lookup_of}
use Rattle.dump_image.specs.declared.Fault.{Fault}
use Rattle.dump_image.specs.declared.Fault.TheVariants.{Version, Short, Counts, Length}
use Rattle.dump_image.specs.declared.Image.{Image}
use Rattle.dump_image.specs.Image.{read_of, fault_number}
use Rattle.dump_lines.specs.declared.Run.{Run}
use Rattle.dump_lines.specs.Lines.{ascii, header, line, told}
use Rattle.dump_lines.proofs.Lengths.{short_dec, length-name, length-line, length-header, length-told}
use Rattle.dump_runs.specs.Runs.{from, total}
use Rattle.dump_runs.specs.Inner.{First}
use Rattle.dump_runs.proofs.Walk.{some_run, none_left}
use Rattle.dump_text.specs.Text.{lines, shuts, opening_by, opening_of, first_number}
use Rattle.dump_text.specs.Text.{refused_line, bad_line, shown_text, table_text, lent_by, image_text, dump_text}
use Rattle.dump_text.specs.Chunks.{Step, step, bytes_of, one_step, run_step, run_steps}
use Rattle.dump_text.specs.Chunks.{open_steps, shown_steps, table_steps, image_steps, dump_steps, none}

-- a line of a text: the place behind it is a later one, from there on the rest is left, and it is no longer than 47 bytes
pub record Leads (S : ℕ → List Step) (k : ℕ) (s : Step) : Type 0 where
  pub is : S k ≡ s ∷ S s.next
  pub up : k < s.next
  pub short : length s.bytes ≤ 47

-- at every place nothing is left, or a line is next; past 2^52 nothing is left
pub data Left (S : ℕ → List Step) (k : ℕ) : Type 0 where
  end : S k ≡ [] → Left S k
  next : (s : Step) → k ≤ 2 ^ 52 → Leads S k s → Left S k

-- ---- a text of one line

pub one_here : (b : List ℕ) (k : ℕ) → k ≡ 0 → one_step b k ≡ step b 1 ∷ one_step b 1
one_here b k e = rw (eq-eqb k 0 e)

pub one_end : (b : List ℕ) (k : ℕ) → (k ≡ 0 → ⊥) → one_step b k ≡ []
one_end b k e = rw (ne_eqb k 0 e)

one_left : (b : List ℕ) → length b ≤ 47 → (k : ℕ) → Left (one_step b) k
one_left b h k = go (ℕ_discrete k 0)
  where
    go : Dec (k ≡ 0) → Left (one_step b) k
    go (yes p) = next (step b 1) (omega arith) (record { is = one_here b k p; up = omega arith; short = h })
    go (no p) = end (one_end b k p)

-- ---- a header and runs

module _ (f : ℕ → Result Gpi Refusal) (w : Widths) where
  pub at-runs : (k : ℕ) → 0 < k → open_steps f w k ≡ run_steps f (total w) (k - 1)
  at-runs k h = rw (ne_eqb k 0 (omega arith))

  -- the line of the first run
  pub run-leads : (k : ℕ) (r : Run) → 0 < k → First f (total w) (k - 1) r → Leads (open_steps f w) k (run_step r)
  run-leads k r h i =
      let u = i.up in
      let z : r.last + 1 ≡ r.last + 2 - 1 = omega arith in
      record {
        is =
            at-runs k h ∙ ap (map run_step) i.runs
            ∙ ap (λ (l : List Step). run_step r ∷ l) (ap (λ (a : ℕ). run_steps f (total w) a) z ∙ sym (at-runs (r.last + 2) (omega arith)));
        up = omega arith;
        short = let e = length-line r in let n = length-name r.answer in omega arith;
      }

  pub runs-end : (k : ℕ) → total w < k → open_steps f w k ≡ []
  runs-end k h = at-runs k (omega arith) ∙ ap (map run_step) (none_left f (total w) (k - 1) (omega arith))

  -- the header's line
  pub header-here : (k : ℕ) → k ≡ 0 → open_steps f w k ≡ step (header w) 1 ∷ open_steps f w 1
  header-here k e = rw (eq-eqb k 0 e)

  header-leads : Listed w → (k : ℕ) → k ≡ 0 → Leads (open_steps f w) k (step (header w) 1)
  header-leads m k p =
      let x = m.pps_most in let y = m.pgs_most in let z = m.l0_most in
      let a = short_dec w.pps (omega arith) in
      let b = short_dec w.pgs (omega arith) in
      let d = short_dec w.l0gptsz (omega arith) in
      record { is = header-here k p; up = omega arith; short = let e = length-header w in omega arith }

  open-left : Listed w → (k : ℕ) → Left (open_steps f w) k
  open-left m k = go (ℕ_discrete k 0) (dec_lt (total w) k)
    where
      t : total w ≤ 2 ^ 52
      t = pow_mono m.pps_most

      go : Dec (k ≡ 0) → Dec (total w < k) → Left (open_steps f w) k
      go (yes p) d = next (step (header w) 1) (omega arith) (header-leads m k p)
      go (no p) (yes q) = end (runs-end k q)
      go (no p) (no q) =
          let r = some_run f (total w) (k - 1) (omega (arith, pos_of_ne-zero p)) in
          next (run_step r.0) (omega (arith, t)) (run-leads k r.0 (omega (arith, pos_of_ne-zero p)) r.1)

-- ---- tables and images

short_told : (s : List ℕ) (n : ℕ) → n < 100 → length s ≤ 10 → length (told s n) ≤ 47
short_told s n k h = let e = length-told s n in let d = short_dec n k in omega arith

looked_small : (a : Result Gpi Refusal) → looked_number a < 100
looked_small (Ok g) = lit< tt
looked_small (Err r) = let h = (refusal_number_lem r).1 in omega arith

fault_small : (f : Fault) → fault_number f < 100
fault_small f = elim f as (λ k. fault_number k < 100) [ Version ↦ lit< tt | Short ↦ lit< tt | Counts ↦ lit< tt | Length ↦ lit< tt ]

module _ (q : Lent) (k : ℕ) where
  shut-left : Left (shown_steps q None) k
  shut-left =
      one_left (refused_line (first_number q))
      (short_told (ascii "refused ") (first_number q) (looked_small (lookup_of q 0)) (omega arith)) k

  pub table_left : Left (table_steps q) k
  unfolding table_steps
  table_left = go (configured_of q.config) refl
    where
      shown : (w : Widths) → Listed w → (s : Bool) → Left (shown_steps q (cond s None (Some w))) k
      shown w m true = shut-left
      shown w m false = open-left (lookup_of q) w m k

      go : (t : Result Widths ConfigError) → configured_of q.config ≡ t → Left (shown_steps q (opening_by t (first_number q))) k
      go (Ok w) e = shown w (listed-widths q.config w e) (shuts (first_number q))
      go (Err r) e = shut-left

pub dump_left : (s : List ℕ) (k : ℕ) → Left (dump_steps s) k
unfolding dump_steps
dump_left s k = go (read_of s)
  where
    go : (r : Result Image Fault) → Left (image_steps s r) k
    go (Err f) = one_left (bad_line (fault_number f)) (short_told (ascii "bad image ") (fault_number f) (fault_small f) (omega arith)) k
    go (Ok f) = table_left (lent_by s f) k

-- ---- every text has a first line

pub some_first : (s : List ℕ) → none (dump_steps s 0) ≡ false
unfolding dump_steps table_steps
some_first s = go (read_of s)
  where
    shown : (q : Lent) (o : Option Widths) → none (shown_steps q o 0) ≡ false
    shown q (Some w) = refl
    shown q None = refl

    go : (r : Result Image Fault) → none (image_steps s r 0) ≡ false
    go (Err f) = refl
    go (Ok f) =
        shown (lent_by s f) (opening_of f.config (first_number (lent_by s f)))

-- ---- the steps from the start are the text

run-lines : (rs : List Run) → bytes_of (map run_step rs) ≡ lines rs
unfolding bytes_of lines
run-lines [] = refl
run-lines (r ∷ rs) = ap (λ (l : List ℕ). line r ++ l) (run-lines rs)

table_text_lem : (q : Lent) → bytes_of (table_steps q 0) ≡ table_text q
unfolding table_steps table_text bytes_of
table_text_lem q = go (opening_of q.config (first_number q))
  where
    go : (o : Option Widths) → bytes_of (shown_steps q o 0) ≡ shown_text q o
    go (Some w) =
        ap (λ (l : List ℕ). header w ++ l)
        (run-lines (from (lookup_of q) 0 (total w - 0))
        ∙ ap (λ (n : ℕ). lines (from (lookup_of q) 0 n)) (let z : total w - 0 ≡ total w = omega arith in z))
    go None = append-nil _

pub dump_text_lem : (s : List ℕ) → bytes_of (dump_steps s 0) ≡ dump_text s
unfolding dump_steps dump_text bytes_of
dump_text_lem s = go (read_of s)
  where
    go : (r : Result Image Fault) → bytes_of (image_steps s r 0) ≡ image_text s r
    go (Err f) = append-nil _
    go (Ok f) = table_text_lem (lent_by s f)
