-- What the program's functions promise.
use Rattle.std.specs.Prelude.{◌≡◌, ◌≤◌, List, [], ℕ, Option, None, Some}
use Rattle.input.specs.Endings.{text_about}
use Rattle.input.specs.Numbers.{decimal}
use Rattle.input.specs.declared.requests.Page.{Page}
use Rattle.input.specs.declared.requests.Request.{Request}
use Rattle.input.specs.Endings.{Ends}
use Rattle.testload.specs.Rule.{load_file}

-- the file of the number that a word is; a word that is none has no file
abbrev pub file_of_number : Option ℕ → List ℕ
file_of_number None = []
file_of_number (Some seed) = load_file seed

abbrev pub load_text : Page → Request → List ℕ → List ℕ
load_text page Request.Answer word = file_of_number (decimal word)
load_text page (Request.About about) word = text_about page about

-- the exit status: 2 where the word is no number
abbrev pub NumberEnds : Option ℕ → ℕ → Type 0
NumberEnds None status = status ≡ 2
NumberEnds (Some seed) status = status ≤ 1

abbrev pub LoadEnds : Request → List ℕ → ℕ → Type 0
LoadEnds Request.Answer word status = NumberEnds (decimal word) status
LoadEnds (Request.About about) word status = Ends about status
