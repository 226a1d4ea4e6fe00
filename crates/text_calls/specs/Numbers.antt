-- How the answer of a text test goes as a number.
use Rattle.std.specs.Prelude.{List, ◌≡◌, ℕ, Option, Some, None}
use Rattle.text.specs.Answer.{Tests}

abbrev pub number_of : Option ℕ → ℕ
number_of None = 0xffff_ffff_ffff_ffff
number_of (Some n) = n

pub record CallsTest (s : List ℕ) (r : ℕ) : Type 0 where
  pub answer : Option ℕ
  pub tests : Tests s answer
  pub number : r ≡ number_of answer
