-- Chunks line by line: where one ends, and that a line and a chunk behind it are a chunk. Crate `dump_text`.
use mathlib.Core.Path.{◌≡◌, sym, ap, ap₂, ◌∙◌, subst}
use mathlib.Core.Bool.{Bool, true, false}
use mathlib.Core.List.{List, [], ◌∷◌, ◌++◌}
use Prim.Native.Nat.{ℕ, ◌+◌, ◌-◌, ◌≤◌, ◌<◌}
use native.Mathlib.Nat.{add-zero}
use native.Mathlib.Omega.{arith}
use borrow.Author.Tests.{le-leb, lt-leb}
use lib.ListN.{length, length-append}
use lib.Seq.{sets}
use Rattle.dump_lines.specs.Digits.{Put}
use Rattle.dump_lines.proofs.Bytes.{sets-append, put-length}
use Rattle.dump_text.specs.declared.Chunk.{Chunk}
use Rattle.dump_text.specs.Chunks.{Step, bytes_of, front, after, none, Chunked}

module _ (S : ℕ → List Step) (k i : ℕ) (o : List ℕ) where
  -- nothing is taken
  still : front (length o - i) (S k) ≡ [] → (d : Bool) → d ≡ none (S k) → Chunked S k i o o (record { written = i; next = k; done = d })
  unfolding bytes_of after
  still e d f =
      record {
        bytes = ap (λ (l : List Step). sets o i (bytes_of l)) (sym e);
        written = sym (add-zero i) ∙ ap (λ (l : List Step). i + length (bytes_of l)) (sym e);
        next = ap (after k) (sym e);
        done = f;
      }

  -- no line is left
  pub chunk_end : S k ≡ [] → Chunked S k i o o (record { written = i; next = k; done = true })
  unfolding front
  chunk_end e = still (ap (front (length o - i)) e) true (ap none (sym e))

  -- no room for the next line
  pub chunk_full : (s : Step) (ss : List Step) → S k ≡ s ∷ ss → length o - i < length s.bytes
      → Chunked S k i o o (record { written = i; next = k; done = false })
  unfolding front
  chunk_full s ss e h = still (ap (front (length o - i)) e ∙ rw (lt-leb (length s.bytes) (length o - i) h)) false (ap none (sym e))

  -- a line, and the rest
  pub chunk_more : {o₁ o' : List ℕ} {n : ℕ} {c : Chunk} (s : Step) → S k ≡ s ∷ S s.next → i ≤ length o → length s.bytes ≤ length o - i
      → Put o i s.bytes o₁ n → Chunked S s.next n o₁ o' c
      → Chunked S k i o o' c
  unfolding front bytes_of after
  chunk_more {o₁} {o'} {n} {c} s e l h p d =
      let m = length s.bytes in
      let R = S s.next in
      let f : front (length o - i) (S k) ≡ s ∷ front (length o - i - m) R = ap (front (length o - i)) e ∙ rw (le-leb m (length o - i) h) in
      let q = p.place in
      let w : length o₁ - n ≡ length o - i - m = (let g = put-length p in omega arith) in
      let t : front (length o₁ - n) R ≡ front (length o - i - m) R = ap (λ (j : ℕ). front j R) w in
      let X = bytes_of (front (length o - i - m) R) in
      record {
        bytes =
            d.bytes ∙ ap₂ (λ (b : List ℕ) (j : ℕ). sets b j (bytes_of (front (length o₁ - n) R))) p.bytes q
            ∙ ap (λ (x : List Step). sets (sets o i s.bytes) (i + m) (bytes_of x)) t
            ∙ sym (sets-append o i s.bytes X) ∙ ap (λ (x : List Step). sets o i (bytes_of x)) (sym f);
        written =
            d.written ∙ ap₂ (λ (j : ℕ) (x : List Step). j + length (bytes_of x)) q t
            ∙ (let g = length-append s.bytes X in let z : i + m + length X ≡ i + length (s.bytes ++ X) = omega arith in z)
            ∙ ap (λ (x : List Step). i + length (bytes_of x)) (sym f);
        next = d.next ∙ ap (after s.next) t ∙ ap (after k) (sym f);
        done = d.done;
      }

-- of the same steps
pub same_steps : {S T : ℕ → List Step} {k i : ℕ} {o o' : List ℕ} {c : Chunk} → S ≡ T → Chunked S k i o o' c → Chunked T k i o o' c
same_steps {S} {T} {k} {i} {o} {o'} {c} e d = subst (λ (R : ℕ → List Step). Chunked R k i o o' c) e d
