-- The dump's whole text, for every input: document 01, "Dump image and text". Crate `dump_text`.
use Rattle.std.specs.Prelude.{Bool, cond, not, ◌&&◌, List, [], ◌∷◌, ◌++◌, ℕ, eqb, leb, Err, None, Ok, Option, Result, Some}
use Rattle.config.specs.declared.Config.{Config}
use Rattle.config.specs.declared.ConfigError.{ConfigError}
use Rattle.config.specs.declared.Widths.{Widths}
use Rattle.config.specs.Fields.{configured_of}
use Rattle.resolve.specs.Lent.{Lent, lent}
use Rattle.gpt.specs.Lookup.{looked_number, lookup_of}
use Rattle.dump_image.specs.declared.Image.{Image}
use Rattle.dump_image.specs.declared.Fault.{Fault}
use Rattle.dump_image.specs.Image.{read_of, fault_number, l0_words, arena_words}
use Rattle.dump_lines.specs.declared.Run.{Run}
use Rattle.dump_lines.specs.Lines.{ascii, line, header, told}
use Rattle.dump_runs.specs.Runs.{from, total}

unfoldable pub lines : List Run → List ℕ
lines [] = []
lines (r ∷ rs) = line r ++ lines rs

-- "Configuration refusals 1 to 4" shut the tables out: those that no address escapes, so that address 0 tells them
abbrev pub shuts : ℕ → Bool
shuts n = not (eqb n 0) && leb n 4

abbrev pub opening_by : Result Widths ConfigError → ℕ → Option Widths
opening_by (Ok w) n = cond (shuts n) None (Some w)
opening_by (Err e) n = None

abbrev pub opening_of : Config → ℕ → Option Widths
opening_of c n = opening_by (configured_of c) n

-- the number that a lookup of address 0 answers
abbrev pub first_number : Lent → ℕ
first_number q = looked_number (lookup_of q 0)

-- "print `refused N` alone"
abbrev pub refused_line : ℕ → List ℕ
refused_line n = told (ascii "refused ") n

-- the header, then one line for each run of equal answers, from address 0 to the last one below 2^PPS
abbrev pub shown_text : Lent → Option Widths → List ℕ
shown_text q (Some w) = header w ++ lines (from (lookup_of q) 0 (total w))
shown_text q None = refused_line (first_number q)

-- of what is lent
unfoldable pub table_text : Lent → List ℕ
table_text q = shown_text q (opening_of q.config (first_number q))

-- "`bad image 1` version or empty input, .."
abbrev pub bad_line : ℕ → List ℕ
bad_line n = told (ascii "bad image ") n

-- what the image f of the bytes s lends
abbrev pub lent_by : List ℕ → Image → Lent
lent_by s f = lent f.config (l0_words s f) (arena_words s f) f.base.0

abbrev pub image_text : List ℕ → Result Image Fault → List ℕ
image_text s (Err f) = bad_line (fault_number f)
image_text s (Ok f) = table_text (lent_by s f)

-- what is printed for the bytes on standard input
unfoldable pub dump_text : List ℕ → List ℕ
dump_text s = image_text s (read_of s)
