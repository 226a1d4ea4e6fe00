-- Two calls of `check_file`, whatever their slices held before and however long they are. The theorems stand in proofs/Calls.antt.
use Rattle.std.specs.Prelude.{List, ◌≢◌, ◌≡◌, ℕ, take, Ok, Result}
use Rattle.format.specs.Refusal.{answer_too_long}
use Rattle.meaning.specs.Outcome as Defined
use Rattle.laws.specs.Names.{lines_beside}
use Rattle.driver.specs.Promises.{result_of}
use Rattle.reading.specs.declared.Refusal.{Refusal}

-- Card 10: "an answer slice large enough" for the call's answer.
abbrev pub Large : Result ℕ Refusal → Type 0
Large r = result_of r ≢ Defined.Refused answer_too_long

-- "the same types, codes, spans, 0c lines and visits, or both get 11": the same result, and the same lines but for message lines.
pub record SameCalls (out' : List ℕ) (r : Result ℕ Refusal) (buf' : List ℕ) (q : Result ℕ Refusal) : Type 0 where
  pub result : result_of r ≡ result_of q
  pub lines : lines_beside out' ≡ lines_beside buf'

-- Card 14: "gets the same answer, byte for byte".
pub record SameAnswer (n : ℕ) (out' : List ℕ) (buf' : List ℕ) (q : Result ℕ Refusal) : Type 0 where
  pub accepted : q ≡ Ok n
  pub answer : take n buf' ≡ take n out'
