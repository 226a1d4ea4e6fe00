-- What the two calls promise: the outcome and both slices at exit as the definitions have them (Converted.antt), for every file and every two slices.
use Rattle.std.specs.Prelude.{List, ◌≡◌, ℕ, length, take, Err, None, Ok, Option, Result, Some}
use Rattle.meaning.specs.Outcome.{Decided}
use Rattle.driver.specs.Promises.{CallEnds, Finishes}
use Rattle.editions.specs.Converted.{decide_widen, decide_narrow}
use Rattle.frames.specs.declared.Edition.{Edition}
use Rattle.reading.specs.declared.Refusal.{Refusal}

-- What is decided of a file of this edition, which is turned into the other one.
abbrev pub decide_from : Edition → List ℕ → ℕ → Decided
decide_from Edition.Narrow f words = decide_widen f words
decide_from Edition.Wide f words = decide_narrow f words

-- before the slices are cleared
pub record RunsTo (x : Decided) (w out w' out' : List ℕ) (r : Result ℕ Refusal) : Type 0 where
  pub told : CallEnds out out' r x
  pub words : length w' ≡ length w
  pub bytes : length out' ≡ length out

abbrev pub ConvertsFile : Edition → List ℕ → List ℕ → List ℕ → List ℕ → List ℕ → Result ℕ Refusal → Type 0
ConvertsFile from f w out w' out' r = Finishes (decide_from from f (length w)) w out w' out' r

abbrev pub Widens : List ℕ → List ℕ → List ℕ → List ℕ → List ℕ → Result ℕ Refusal → Type 0
Widens f w out w' out' r = Finishes (decide_widen f (length w)) w out w' out' r

abbrev pub Narrows : List ℕ → List ℕ → List ℕ → List ℕ → List ℕ → Result ℕ Refusal → Type 0
Narrows f w out w' out' r = Finishes (decide_narrow f (length w)) w out w' out' r

-- A call gives these bytes: it is accepted with their number, and they stand at the start of the output.
pub record Gives (out' ls : List ℕ) (r : Result ℕ Refusal) : Type 0 where
  pub accepted : r ≡ Ok (length ls)
  pub stands : take (length ls) out' ≡ ls
