-- Texts, numbers and lines as bytes (document 01, "Frame lines"): what files and answers are written with.
use Rattle.std.specs.Prelude.{true, false, ℕ, ◌+◌, ◌/◌, ◌%◌, ltb}
use mathlib.Core.List.{List, [], ◌∷◌, ◌++◌}
use Prim.Native.Char.{code}
use Prim.Native.String.{String}

-- The codes of the characters of a text; these texts have none above 127, so they are its bytes.
unfoldable pub ascii : String → List ℕ
ascii String.[] = List.[]
ascii (String.◌∷◌ c s) = List.◌∷◌ (code c) (ascii s)

-- Big-endian numbers.
unfoldable pub bytes₂ : ℕ → List ℕ
bytes₂ n = n / 0x100 % 0x100 ∷ n % 0x100 ∷ []

unfoldable pub bytes₄ : ℕ → List ℕ
unfolding bytes₂
bytes₄ n = bytes₂ (n / 0x1_0000) ++ bytes₂ n

unfoldable pub hex_digit : ℕ → ℕ
hex_digit n = elim (ltb n 10) [ true ↦ 48 + n | false ↦ 87 + n ]

unfoldable pub hex_line : List ℕ → List ℕ
unfolding hex_digit
hex_line [] = 10 ∷ []
hex_line (b ∷ bs) = hex_digit (b / 16) ∷ hex_digit (b % 16) ∷ hex_line bs
