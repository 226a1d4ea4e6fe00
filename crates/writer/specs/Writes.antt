-- What it is to write a text into a lent slice from a place on: where it fits, it stands there and the rest of the slice is as
-- it was; where it does not, the slice is full. So a slice is full exactly where the text is longer than the room.
use Rattle.std.specs.Prelude.{List, [], ◌∷◌, ◌++◌, ◌≡◌, ℕ, ◌+◌, ◌/◌, ◌%◌, ◌≤◌, ◌<◌, length, take, drop, None, Option, Some}
use Rattle.format.specs.Bytes.{hex_digit}

unfoldable pub placed : {A : Type 0} → ℕ → List A → List A → List A
placed at text out = take at out ++ text ++ drop (at + length text) out

pub record Writes {A : Type 0} (out : List A) (at : ℕ) (text : List A) (out' : List A) (r : Option ℕ) : Type 0 where
  pub fits : at + length text ≤ length out → (r ≡ Some (at + length text)) × (out' ≡ placed at text out)
  pub over : length out < at + length text → r ≡ None
  pub long : length out' ≡ length out

-- The digits of bytes: a line without its LF.
unfoldable pub hex_of : List ℕ → List ℕ
unfolding hex_digit
hex_of [] = []
hex_of (b ∷ bs) = hex_digit (b / 16) ∷ hex_digit (b % 16) ∷ hex_of bs

-- A writer goes forward and stays in the slice, whatever it writes.
pub record Moves {A : Type 0} (out : List A) (at : ℕ) (out' : List A) (r : Option ℕ) : Type 0 where
  pub onward : (n : ℕ) → r ≡ Some n → at ≤ n
  pub inside : (n : ℕ) → r ≡ Some n → at ≤ length out → n ≤ length out
  pub long : length out' ≡ length out

-- A text may be empty, and then nothing is written.
pub record WritesText (out : List ℕ) (at : ℕ) (s out' : List ℕ) (r : Option ℕ) : Type 0 where
  pub is : at ≤ length out → Writes out at (hex_of s) out' r
  pub moves : Moves out at out' r
