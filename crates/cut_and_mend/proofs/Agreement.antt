-- Document 01's agreement gives the theory's, for words of 64 bits.
use mathlib.Core.Path.{◌≡◌, refl, sym, ap, ◌∙◌}
use mathlib.Core.List.{List}
use Prim.Native.Nat.{ℕ, ◌*◌, ◌<◌, ◌^◌}
use Rattle.gpi.specs.declared.Size.{Size}
use Rattle.gpi.specs.declared.Size.TheVariants.{MB2, MB32, MB512}
use Rattle.theory.specs.Normal.{at, span}
use Rattle.theory.specs.Set.{Agrees}
use Rattle.l1.specs.Arm.{arm, level_of}
use Rattle.l1.proofs.Arm.{contiguous, reads_all}
use Rattle.config.specs.declared.Widths.{Widths}
use Rattle.config.specs.Widths.{Listed}
use Rattle.config.specs.Index.{size_words}
use Rattle.config.proofs.Geometry.{words_32, words_512}
use Rattle.cut_and_mend.specs.Demand3.{EntryAgrees}

-- the words of a size, as the theory counts them
span-size : (w : Widths) → Listed w → (s : Size) → span (size_words w MB2) (level_of s) ≡ size_words w s
unfolding span
span-size w h MB2 = refl
span-size w h MB32 = sym (words_32 w h)
span-size w h MB512 = sym (words_512 w h ∙ ap (λ (n : ℕ). 16 * n) (words_32 w h))

pub agrees_01 : (w : Widths) → Listed w → (t : List ℕ) → ((k : ℕ) → at t k < 2 ^ 64) → (i : ℕ) → EntryAgrees w t i
    → Agrees arm (size_words w MB2) t i
agrees_01 w h t b i a =
    record {
      agrees = λ l e k r.
          let q = contiguous (at t i) l e in
          rw q.4 (reads_all (at t k) q.0 (b k) (λ n m. a.agrees q.0 q.1 q.2 k (rw (← span-size w h q.1, q.3) r) n m));
    }
