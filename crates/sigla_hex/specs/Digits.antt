-- The digits of the file's text, read where they stand.
use Rattle.std.specs.Prelude.{true, false, List, [], ◌∷◌, ℕ, ◌+◌, ◌*◌, ltb, length, get_or, drop, None, Option, Some, unwrap_or}
use Rattle.format.specs.Lines.{Line, bytes_of, lines, digit}

-- A digit's value, and 16 for any other byte.
unfoldable pub digit_w : ℕ → ℕ
unfolding digit
digit_w c = unwrap_or (digit c) 16

-- The byte of the two digits at i; 0 past the end.
unfoldable pub digits_w : List ℕ → ℕ → ℕ
unfolding digit_w
digits_w f i = elim (ltb (i + 1) (length f)) [ true ↦ digit_w (get_or f i 0) * 16 + digit_w (get_or f (i + 1) 0) | false ↦ 0 ]

-- The byte of the two digits at i; none where they are no digits or the file ends.
unfoldable pub byte_of : Option ℕ → Option ℕ → Option ℕ
byte_of (Some h) (Some l) = Some (h * 16 + l)
byte_of (Some h) None = None
byte_of None l = None

unfoldable pub pair_at : List ℕ → ℕ → Option ℕ
unfolding byte_of digit
pair_at f i = elim (ltb (i + 1) (length f)) [ true ↦ byte_of (digit (get_or f i 0)) (digit (get_or f (i + 1) 0)) | false ↦ None ]

-- The number of the four digits at i.
unfoldable pub half_at : List ℕ → ℕ → ℕ
unfolding digits_w
half_at f i = digits_w f i * 256 + digits_w f (i + 2)

-- The line that starts at a place: its bytes, or none where condition 3 is met or the file has ended.
unfoldable pub first_line : List Line → Option (List ℕ)
unfolding bytes_of
first_line [] = None
first_line (l ∷ ls) = bytes_of l

unfoldable pub line_at : List ℕ → ℕ → Option (List ℕ)
unfolding first_line lines
line_at f at = first_line (lines (drop at f))
