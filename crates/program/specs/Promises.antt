-- What the functions of src/ promise: what is printed for a file is what the definition prints (`printed_lines` of meaning/specs/Outcome.antt).
use Rattle.std.specs.Prelude.{List, ◌++◌, ◌≡◌, ℕ, ◌-◌, length, replicate, IfSome, Option}
use Rattle.std.specs.Io.KnownBytes.{Appends}
use Rattle.input.specs.Gains.{GainsFrontOf}
use Rattle.meaning.specs.Outcome.{Decided, min_words, decide, printed_lines}
use Rattle.meaning.specs.Lamp.{lamp}
use Rattle.lamp.specs.Promises.{lamp_line}
use Rattle.editions.specs.Converted.{decide_widen, decide_narrow}
use Rattle.program.specs.declared.Job.{Job}

-- What is decided of a file by the program's job, with so many words lent.
abbrev pub decided_by : Job → List ℕ → ℕ → Decided
decided_by Job.Check f words = decide f words
decided_by Job.Widen f words = decide_widen f words
decided_by Job.Narrow f words = decide_narrow f words

-- What the definition prints of it stands at the start of the answer slice, and zeros after it; r is its length; the work slice is zero
-- throughout.
pub record Prints (x : Decided) (w' out' : List ℕ) (r : ℕ) : Type 0 where
  pub long : r ≡ length (printed_lines x 65536)
  pub out : out' ≡ printed_lines x 65536 ++ replicate (65536 - r) 0
  pub work : w' ≡ replicate min_words 0

-- The lamp's line, by the definition, and the work slice is zero throughout.
pub record PrintsLamp (f w' r : List ℕ) : Type 0 where
  pub line : r ≡ lamp_line (lamp f min_words)
  pub work : w' ≡ replicate min_words 0

-- ---- The programs

-- what a program prints for a file
abbrev pub lines_by : Job → List ℕ → List ℕ
lines_by job f = printed_lines (decided_by job f min_words) 65536

abbrev pub lamp_lines : List ℕ → List ℕ
lamp_lines f = lamp_line (lamp f min_words)

-- Where a reader's bytes are known, those are the file, to the last, and a writer gains what is printed for it, and nothing else.
abbrev pub Writes : {R W : Type 0} → (R → Option (List ℕ)) → (W → Option (List ℕ)) → (List ℕ → List ℕ) → R → W → W → Type 0
Writes remaining contents lines from to to' = IfSome (remaining from) (λ f. Appends (contents to) (contents to') (lines f))

-- Whatever comes of it, the writer gains a part of that from its start.
abbrev pub WritesFront : {R W : Type 0} → (R → Option (List ℕ)) → (W → Option (List ℕ)) → (List ℕ → List ℕ) → R → W → W → Type 0
WritesFront remaining contents lines from to to' = IfSome (remaining from) (λ f. GainsFrontOf (contents to) (contents to') (lines f))
