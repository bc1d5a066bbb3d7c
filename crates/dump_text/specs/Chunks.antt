-- The text in chunks: what is left from a place on, and how much of it a buffer takes. `proofs/Stream` shows that chunks of any sizes, one
-- after the other, are the text. Crate `dump_text`.
use Rattle.std.specs.Prelude.{◌≡◌, Bool, true, false, cond, List, [], ◌∷◌, ◌++◌, map, ℕ, ◌+◌, ◌-◌, eqb, leb, length}
use Rattle.std.specs.Prelude.{Err, None, Ok, Option, Result, Some}
use Rattle.std.proofs.lemmas.List.Edits.{sets}
use Rattle.gpi.specs.declared.Gpi.{Gpi}
use Rattle.config.specs.declared.Widths.{Widths}
use Rattle.resolve.specs.declared.Refusal.{Refusal}
use Rattle.resolve.specs.Lent.{Lent}
use Rattle.gpt.specs.Lookup.{lookup_of}
use Rattle.dump_image.specs.declared.Fault.{Fault}
use Rattle.dump_image.specs.declared.Image.{Image}
use Rattle.dump_image.specs.Image.{read_of, fault_number}
use Rattle.dump_lines.specs.declared.Run.{Run}
use Rattle.dump_lines.specs.Lines.{line, header}
use Rattle.dump_runs.specs.Runs.{from, total}
use Rattle.dump_text.specs.declared.Chunk.{Chunk}
use Rattle.dump_text.specs.Text.{opening_of, first_number, refused_line, bad_line, lent_by}

-- a line, and the place behind it
pub record Step : Type 0 where
  pub bytes : List ℕ
  pub next : ℕ

abbrev pub step : List ℕ → ℕ → Step
step b n = record { bytes = b; next = n }

unfoldable pub bytes_of : List Step → List ℕ
bytes_of [] = []
bytes_of (s ∷ ss) = s.bytes ++ bytes_of ss

-- ---- what is left from a place on: 0 is the start, and 1 + a the line of the address a

-- a text of one line
abbrev pub one_step : List ℕ → ℕ → List Step
one_step b k = cond (eqb k 0) (step b 1 ∷ []) []

abbrev pub run_step : Run → Step
run_step r = step (line r) (r.last + 2)

-- the runs of the addresses from a on, below the end
abbrev pub run_steps : (ℕ → Result Gpi Refusal) → ℕ → ℕ → List Step
run_steps f end a = map run_step (from f a (end - a))

-- a header, and the runs
abbrev pub open_steps : (ℕ → Result Gpi Refusal) → Widths → ℕ → List Step
open_steps f w k = cond (eqb k 0) (step (header w) 1 ∷ run_steps f (total w) 0) (run_steps f (total w) (k - 1))

abbrev pub shown_steps : Lent → Option Widths → ℕ → List Step
shown_steps q (Some w) = open_steps (lookup_of q) w
shown_steps q None = one_step (refused_line (first_number q))

unfoldable pub table_steps : Lent → ℕ → List Step
table_steps q = shown_steps q (opening_of q.config (first_number q))

abbrev pub image_steps : List ℕ → Result Image Fault → ℕ → List Step
image_steps s (Err f) = one_step (bad_line (fault_number f))
image_steps s (Ok f) = table_steps (lent_by s f)

unfoldable pub dump_steps : List ℕ → ℕ → List Step
dump_steps s = image_steps s (read_of s)

-- ---- how much of it a buffer takes

-- as many whole lines as fit into n bytes
unfoldable pub front : ℕ → List Step → List Step
front n [] = []
front n (s ∷ ss) = cond (leb (length s.bytes) n) (s ∷ front (n - length s.bytes) ss) []

-- the place behind these lines, k if there are none
unfoldable pub after : ℕ → List Step → ℕ
after k [] = k
after k (s ∷ ss) = after s.next ss

abbrev pub none : List Step → Bool
none [] = true
none (s ∷ ss) = false

-- what is left from k on is S k. A chunk from there into the buffer o, of which i bytes are filled: o' is the buffer after it.
pub record Chunked (S : ℕ → List Step) (k i : ℕ) (o o' : List ℕ) (r : Chunk) : Type 0 where
  pub bytes : o' ≡ sets o i (bytes_of (front (length o - i) (S k)))
  pub written : r.written ≡ i + length (bytes_of (front (length o - i) (S k)))
  pub next : r.next ≡ after k (front (length o - i) (S k))
  pub done : r.done ≡ none (S r.next)

-- ---- chunk after chunk, into buffers of the sizes ns

unfoldable pub chunks : (ℕ → List Step) → ℕ → List ℕ → List ℕ
chunks S k [] = []
chunks S k (n ∷ ns) = bytes_of (front n (S k)) ++ chunks S (after k (front n (S k))) ns

unfoldable pub after_all : (ℕ → List Step) → ℕ → List ℕ → ℕ
after_all S k [] = k
after_all S k (n ∷ ns) = after_all S (after k (front n (S k))) ns
