-- What the program's functions promise.
use Rattle.std.specs.Prelude.{◌≡◌, ◌≤◌, List, [], ℕ, Option, None, Some, OnOk, Result}
use Rattle.std.specs.Io.KnownBytes.{Appends}
use Rattle.meaning.specs.Outcome.{min_words}
use Rattle.input.specs.Endings.{text_about, Ends}
use Rattle.input.specs.Gains.{GainsFrontOf}
use Rattle.input.specs.Numbers.{decimal}
use Rattle.input.specs.declared.Failure.{Failure}
use Rattle.input.specs.declared.requests.Page.{Page}
use Rattle.input.specs.declared.requests.Request.{Request}
use Rattle.inspect.specs.Inspect.{decide_plain}
use Rattle.inspect.specs.declared.Inspected.{Inspected}
use Rattle.sigla_inspect.specs.Text.{inspect_text}

-- A text was written whole, or that failed, and a part of it from its start was written.
pub record HandsOver {A : Type 0} (old new : Option (List ℕ)) (r : Result A Failure) (text : List ℕ) : Type 0 where
  pub whole : OnOk r (Appends old new text)
  pub front : GainsFrontOf old new text

-- The words that the bindings take.
abbrev pub words_bound : Inspected → ℕ
words_bound (Inspected.Success n) = n
words_bound Inspected.Failure = 0
words_bound Inspected.ShutOut = 0
words_bound Inspected.Fewer = 0
words_bound (Inspected.Refused r) = 0
words_bound Inspected.TooFewWords = 0

-- ---- The program

-- what is printed of a file at the entry of a number
abbrev pub text_at : ℕ → List ℕ → List ℕ
text_at n f = inspect_text (decide_plain f n min_words 65536)

-- at the entry of the number that a word is; nothing, where it is none
abbrev pub text_of_number : Option ℕ → List ℕ → List ℕ
text_of_number None f = []
text_of_number (Some n) f = text_at n f

abbrev pub asked_text : Page → Request → List ℕ → List ℕ → List ℕ
asked_text page Request.Answer word f = text_of_number (decimal word) f
asked_text page (Request.About about) word f = text_about page about

-- the exit status: 2 where the word is no number
abbrev pub NumberEnds : Option ℕ → ℕ → Type 0
NumberEnds None status = status ≡ 2
NumberEnds (Some n) status = status ≤ 1

abbrev pub InspectEnds : Request → List ℕ → ℕ → Type 0
InspectEnds Request.Answer word status = NumberEnds (decimal word) status
InspectEnds (Request.About about) word status = Ends about status
