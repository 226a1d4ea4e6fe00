-- Prints: a number for each text. Where two differ the texts do, so a name is compared only with those that have its own.
use Rattle.std.specs.Prelude.{List, [], ◌≡◌, ℕ, zero, suc, ◌+◌, ◌-◌, ◌*◌, ◌/◌, ◌%◌, ◌^◌, ◌<◌, length, get_or}
use Rattle.frames.specs.Promises.{full_w}

-- The last four bytes, then the first k fours, mixed into one number.
unfoldable pub mixed : List ℕ → ℕ → ℕ
unfolding full_w
mixed s zero = full_w s (length s - 4) * 2654435769 % 2 ^ 32
mixed s (suc k) = (mixed s k + full_w s (4 * k)) % 2 ^ 32 * 2654435769 % 2 ^ 32

-- its upper half
unfoldable pub print_of : List ℕ → ℕ
unfolding mixed
print_of s = mixed s (length s / 4) / 65536

-- Each name's print stands at the name's number.
pub record Printed (prints : List ℕ) (names : List (List ℕ)) : Type 0 where
  pub is : (j : ℕ) → j < length names → get_or prints j 0 ≡ print_of (get_or names j [])
