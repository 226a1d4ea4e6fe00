-- What the functions of src/ promise: for every file, every number and both slices the outcome is the definition's.
use Rattle.std.specs.Prelude.{List, [], ◌∷◌, ◌≡◌, ℕ, length, replicate, Err, Ok, Result}
use Rattle.format.specs.Refusal.{number}
use Rattle.format.specs.Bytes.{hex_line}
use Rattle.plain_theory.specs.Words.{bindings_spelled}
use Rattle.reading.specs.Promises.{refusal}
use Rattle.reading.specs.declared.Refusal.{Refusal}
use Rattle.inspect.specs.Inspect as Defined
use Rattle.inspect.specs.Inspect.{decide_plain, lent_after}
use Rattle.inspect.specs.declared.Inspected.{Inspected}
use Rattle.plain.specs.declared.Unsolved.{Unsolved}

abbrev pub inspected_by : Result ℕ Unsolved → Inspected
inspected_by (Ok n) = Inspected.Success n
inspected_by (Err Unsolved.Failure) = Inspected.Failure
inspected_by (Err Unsolved.ShutOut) = Inspected.ShutOut
inspected_by (Err Unsolved.TooFew) = Inspected.TooFewWords

-- What is answered, beside what the definition decides.
abbrev pub ToldInspected : Inspected → Defined.Inspected → Type 0
ToldInspected r (Defined.Success bs) = r ≡ Inspected.Success (length (bindings_spelled bs))
ToldInspected r Defined.Failure = r ≡ Inspected.Failure
ToldInspected r Defined.ShutOut = r ≡ Inspected.ShutOut
ToldInspected r Defined.Fewer = r ≡ Inspected.Fewer
ToldInspected r (Defined.Refused i) = (i' : Refusal) × (r ≡ Inspected.Refused i') × (refusal i' ≡ i)
ToldInspected r Defined.TooFewWords = r ≡ Inspected.TooFewWords

pub record Answers (f : List ℕ) (n : ℕ) (w l w' l' : List ℕ) (r : Inspected) : Type 0 where
  pub told : ToldInspected r (decide_plain f n (length w) (length l))
  pub lent : l' ≡ lent_after (length l) (decide_plain f n (length w) (length l))
  pub words : length w' ≡ length w

-- The answer and the lent slice are the definition's, and the work slice is zero throughout.
pub record Inspects (f : List ℕ) (n : ℕ) (w l w' l' : List ℕ) (r : Inspected) : Type 0 where
  pub told : ToldInspected r (decide_plain f n (length w) (length l))
  pub lent : l' ≡ lent_after (length l) (decide_plain f n (length w) (length l))
  pub work : w' ≡ replicate (length w) 0

-- ---- The line

-- Of what was answered; `inspect_line` has it of what the definition decides (`line_is`).
unfoldable pub line_of : Inspected → List ℕ
unfolding hex_line
line_of (Inspected.Success n) = hex_line (0x0e ∷ 1 ∷ [])
line_of Inspected.Failure = hex_line (0x0e ∷ 0 ∷ [])
line_of Inspected.ShutOut = hex_line (0x0e ∷ 2 ∷ [])
line_of Inspected.Fewer = hex_line (0x0e ∷ 3 ∷ [])
line_of (Inspected.Refused e) = hex_line (0x0f ∷ number (refusal e) ∷ [])
line_of Inspected.TooFewWords = hex_line (0x0f ∷ 18 ∷ [])
