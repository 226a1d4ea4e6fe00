-- The line of a number has its two digits.
use mathlib.Core.List.{[], ◌∷◌}
use mathlib.Core.Path.{◌≡◌, ap}
use Prim.Native.Nat.{ℕ, ◌/◌, ◌%◌}
use Rattle.format.specs.Bytes.{hex_digit, hex_line}

pub line_of : (n i : ℕ) → n ≡ i → 48 ∷ 102 ∷ hex_digit (n / 16) ∷ hex_digit (n % 16) ∷ 10 ∷ [] ≡ hex_line (0x0f ∷ i ∷ [])
unfolding hex_line hex_digit
line_of n i e = ap (λ m. 48 ∷ 102 ∷ hex_digit (m / 16) ∷ hex_digit (m % 16) ∷ 10 ∷ []) e
