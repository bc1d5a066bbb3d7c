-- Chunks of any sizes, one after the other, are the text; and a buffer of 47 bytes always goes on. Crate `dump_text`.
use mathlib.Core.Path.{◌≡◌, refl, sym, ap, ap₂, ◌∙◌, subst}
use mathlib.Core.Bool.{Bool, true, false, cond}
use mathlib.Core.List.{List, [], ◌∷◌, ◌++◌, append_assoc, append-nil}
use Prim.Native.Nat.{ℕ, ◌+◌, ◌-◌, ◌≤◌, ◌<◌, ◌^◌}
use native.Mathlib.Omega.{arith}
use borrow.Author.Tests.{le-leb, leb-true}
use lib.Dec.{leb}
use lib.ListN.{length, take, drop, length-append}
use lib.Seq.{length-sets, sets-eq, take-append_seam}
use Rattle.dump_text.specs.declared.Chunk.{Chunk}
use Rattle.dump_text.specs.Text.{dump_text}
use Rattle.dump_text.specs.Chunks.{Step, bytes_of, dump_steps, front, after, none, Chunked, chunks, after_all}
use Rattle.dump_text.proofs.Steps.{Left, end, next, dump_left, dump_text_lem}

-- what fits is no longer than the room
front_fits : (n : ℕ) (ss : List Step) → length (bytes_of (front n ss)) ≤ n
unfolding front bytes_of
front_fits n [] = omega arith
front_fits n (s ∷ ss) = go (leb (length s.bytes) n) refl (front_fits (n - length s.bytes) ss)
  where
    go : (b : Bool) → leb (length s.bytes) n ≡ b → length (bytes_of (front (n - length s.bytes) ss)) ≤ n - length s.bytes
        → length (bytes_of (cond b (s ∷ front (n - length s.bytes) ss) [])) ≤ n
    go true e h =
        let l = leb-true (length s.bytes) n e in
        let k = length-append s.bytes (bytes_of (front (n - length s.bytes) ss)) in omega arith
    go false e h = omega arith

module _ (S : ℕ → List Step) (left : (k : ℕ) → Left S k) where
  -- what is left behind a line that is next is what is left from the place behind it
  follow : (k : ℕ) (s : Step) (ss : List Step) → S k ≡ s ∷ ss → (ss ≡ S s.next) × (k < s.next)
  follow k s ss e = go (left k)
    where
      go : Left S k → (ss ≡ S s.next) × (k < s.next)
      go (end f) = let z : ◌≡◌ {A = List Step} [] (s ∷ ss) = sym f ∙ e in let y : ◌≡◌ {A = ℕ} 0 1 = cc in absurd (omega arith)
      go (next t m l) =
          let z : t ∷ S t.next ≡ s ∷ ss = sym l.is ∙ e in
          let x : t ≡ s = cc in
          let y : S t.next ≡ ss = cc in
          (sym y ∙ ap (λ (u : Step). S u.next) x, subst (λ (u : Step). k < u.next) x l.up)

  -- a chunk, then the rest from where it ends, is the rest; and no chunk goes back
  law : (n k : ℕ) (ss : List Step) → S k ≡ ss
      → (bytes_of (front n ss) ++ bytes_of (S (after k (front n ss))) ≡ bytes_of ss) × (k ≤ after k (front n ss))
  unfolding front bytes_of after
  law n k [] e = (ap bytes_of e, omega arith)
  law n k (s ∷ ss) e = go (leb (length s.bytes) n) (law (n - length s.bytes) s.next ss (sym f.0))
    where
      f : (ss ≡ S s.next) × (k < s.next)
      f = follow k s ss e

      F : List Step
      F = front (n - length s.bytes) ss

      go : (b : Bool) → (bytes_of F ++ bytes_of (S (after s.next F)) ≡ bytes_of ss) × (s.next ≤ after s.next F)
          → (bytes_of (cond b (s ∷ F) []) ++ bytes_of (S (after k (cond b (s ∷ F) []))) ≡ s.bytes ++ bytes_of ss)
          × (k ≤ after k (cond b (s ∷ F) []))
      go true h = (
        append_assoc s.bytes (bytes_of F) (bytes_of (S (after s.next F))) ∙ ap (λ (b : List ℕ). s.bytes ++ b) h.0,
        omega (arith, f.1, h.1),
      )
      go false h = (ap bytes_of e, omega arith)

  -- a line that fits is taken, so that a buffer of 47 bytes goes on
  progress : (n k : ℕ) → 47 ≤ n → none (S k) ≡ false → k < after k (front n (S k))
  unfolding front after
  progress n k h e = go (left k)
    where
      go : Left S k → k < after k (front n (S k))
      go (end f) = let z : ◌≡◌ {A = Bool} true false = ap none (sym f) ∙ e in let y : ◌≡◌ {A = ℕ} 0 1 = cc in absurd (omega arith)
      go (next s m l) =
          let b = l.short in
          let u = l.up in
          let q : front n (S k) ≡ s ∷ front (n - length s.bytes) (S s.next) = ap (front n) l.is
          ∙ rw (le-leb (length s.bytes) n (omega arith)) in
          let v = (law (n - length s.bytes) s.next (S s.next) refl).1 in
          subst (λ (x : List Step). k < after k x) (sym q) (omega arith)

  -- nothing is left past 2^52
  low : (k : ℕ) → none (S k) ≡ false → k ≤ 2 ^ 52
  low k e = go (left k)
    where
      go : Left S k → k ≤ 2 ^ 52
      go (end f) = let z : ◌≡◌ {A = Bool} true false = ap none (sym f) ∙ e in let y : ◌≡◌ {A = ℕ} 0 1 = cc in absurd (omega arith)
      go (next s m l) = m

  -- chunks of any sizes, and the rest
  chunks-then-rest : (k : ℕ) (ns : List ℕ) → chunks S k ns ++ bytes_of (S (after_all S k ns)) ≡ bytes_of (S k)
  unfolding chunks after_all
  chunks-then-rest k [] = refl
  chunks-then-rest k (n ∷ ns) =
      append_assoc (bytes_of (front n (S k))) (chunks S (after k (front n (S k))) ns) (bytes_of (S (after_all S (after k (front n (S k))) ns)))
      ∙ ap (λ (x : List ℕ). bytes_of (front n (S k)) ++ x) (chunks-then-rest (after k (front n (S k))) ns)
      ∙ (law n k (S k) refl).0

  empty : (k : ℕ) → none (S k) ≡ true → bytes_of (S k) ≡ []
  unfolding bytes_of
  empty k e = go (S k) e
    where
      go : (ss : List Step) → none ss ≡ true → bytes_of ss ≡ []
      go [] f = refl
      go (s ∷ ss) f = let y : ◌≡◌ {A = ℕ} 0 1 = cc in absurd (omega arith)

-- ---- of the dump

module _ (s : List ℕ) where
  -- the chunks made so far, and what is left, are the text, whatever the sizes were
  pub so_far : (ns : List ℕ) → chunks (dump_steps s) 0 ns ++ bytes_of (dump_steps s (after_all (dump_steps s) 0 ns)) ≡ dump_text s
  so_far ns = chunks-then-rest (dump_steps s) (dump_left s) 0 ns ∙ dump_text_lem s

  -- once nothing is left, the chunks are the text
  pub streamed : (ns : List ℕ) → none (dump_steps s (after_all (dump_steps s) 0 ns)) ≡ true → chunks (dump_steps s) 0 ns ≡ dump_text s
  streamed ns e =
      sym (append-nil (chunks (dump_steps s) 0 ns))
      ∙ ap (λ (x : List ℕ). chunks (dump_steps s) 0 ns ++ x) (sym (empty (dump_steps s) (dump_left s) (after_all (dump_steps s) 0 ns) e))
      ∙ so_far ns

  module _ (k : ℕ) (o o' : List ℕ) (r : Chunk) (c : Chunked (dump_steps s) k 0 o o' r) where
    -- the bytes written are in the buffer, and they are the chunk
    pub written_inside : r.written ≤ length o'
    written_inside =
        let X = bytes_of (front (length o - 0) (dump_steps s k)) in
        let h : length X ≤ length o - 0 = front_fits (length o - 0) (dump_steps s k) in
        let w = c.written in
        let l = ap length c.bytes ∙ length-sets o 0 X in
        omega arith

    pub written_bytes : take r.written o' ≡ bytes_of (front (length o) (dump_steps s k))
    written_bytes =
        let X = bytes_of (front (length o - 0) (dump_steps s k)) in
        let h : length X ≤ length o - 0 = front_fits (length o - 0) (dump_steps s k) in
        ap₂ take (c.written ∙ (let y : 0 + length X ≡ length X = omega arith in y)) (c.bytes ∙ sets-eq X o 0 (omega arith))
        ∙ take-append_seam X (drop (0 + length X) o)
        ∙ ap (λ (n : ℕ). bytes_of (front n (dump_steps s k))) (let z : length o - 0 ≡ length o = omega arith in z)

    -- until it is done, no chunk goes further than 2^52 ..
    pub low_next : r.done ≡ false → r.next ≤ 2 ^ 52
    low_next d = low (dump_steps s) (dump_left s) r.next (sym c.done ∙ d)

    -- .. and each into a buffer of 47 bytes goes on, so that the text ends
    pub goes_on : 47 ≤ length o → none (dump_steps s k) ≡ false → k < r.next
    goes_on l e = subst (λ (m : ℕ). k < m) (sym c.next) (progress (dump_steps s) (dump_left s) (length o - 0) k (omega arith) e)
