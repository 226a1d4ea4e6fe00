-- Which texts are numbers.
use Rattle.std.specs.Prelude.{◌&&◌, ℕ, ◌+◌, ◌-◌, ◌*◌, true, false, List, [], ◌∷◌, nat_le, nat_lt, None, Option, Some}

-- the number that decimal digits go on to from v; none where one is no digit, or the number has more than 32 bits
unfoldable pub digits_from : ℕ → List ℕ → Option ℕ
digits_from v [] = Some v
digits_from v (b ∷ s) =
    elim ((nat_le 48 b && nat_le b 57) && nat_lt (10 * v + (b - 48)) 0x1_0000_0000) [ true ↦ digits_from (10 * v + (b - 48)) s | false ↦ None ]

unfoldable pub decimal : List ℕ → Option ℕ
unfolding digits_from
decimal [] = None
decimal (b ∷ s) = digits_from 0 (b ∷ s)
