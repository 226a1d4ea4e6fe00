-- How the reading's answer goes as a number: 0, or document 01's number of the refusal.
use Rattle.std.specs.Prelude.{List, ◌≡◌, ℕ, Err, Ok, Result}
use Rattle.format.specs.Refusal.{number}
use Rattle.format.specs.Frame.{wide}
use Rattle.reading.specs.Promises.{refusal, Reads}
use Rattle.reading.specs.declared.Refusal.{Refusal}

abbrev pub read_number : Result (Unit {0}) Refusal → ℕ
read_number (Ok tt) = 0
read_number (Err e) = number (refusal e)

pub record CallsRead (f w w' : List ℕ) (r : ℕ) : Type 0 where
  pub answer : Result (Unit {0}) Refusal
  pub reads : Reads wide f w w' answer
  pub number : r ≡ read_number answer
