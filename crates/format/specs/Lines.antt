-- Document 01, "Frame lines": "A file is lines of lower-case hexadecimal, one frame a line, each closed by LF"; and condition 3 of
-- "When a file is turned down": "line empty, odd, other characters, over 512 bytes decoded, or without LF".
use Rattle.std.specs.Prelude.{Bool, true, false, List, [], ◌∷◌, ℕ, ◌+◌, ◌*◌, eqb, leb, length, None, Option, Some}
use Rattle.text.specs.Utf8.{one_more}
use Rattle.format.specs.Bytes.{ascii}

-- A line, without its LF. Bytes after the last LF are a line that lacks one.
pub data Line : Type 0 where
  closed unclosed : List ℕ → Line

abbrev pub LF : ℕ
LF = 10

-- a byte, not LF, and the lines from it on
unfoldable pub in_front : ℕ → List Line → List Line
in_front b [] = unclosed (b ∷ []) ∷ []
in_front b (closed s ∷ ls) = closed (b ∷ s) ∷ ls
in_front b (unclosed s ∷ ls) = unclosed (b ∷ s) ∷ ls

unfoldable pub lines : List ℕ → List Line
unfolding in_front
lines [] = []
lines (b ∷ s) = elim (eqb b LF) [ true ↦ closed [] ∷ lines s | false ↦ in_front b (lines s) ]

-- ---- Hexadecimal

-- where in the list the first element stands that passes the test
unfoldable pub position : {A : Type 0} → (A → Bool) → List A → Option ℕ
position test [] = None
position test (a ∷ l) = elim (test a) [ true ↦ Some 0 | false ↦ one_more (position test l) ]

-- A digit's value is its place here.
unfoldable pub digits : List ℕ
unfolding ascii
digits = ascii "0123456789abcdef"

unfoldable pub digit : ℕ → Option ℕ
unfolding position digits
digit c = position (eqb c) digits

-- the byte of two digits, in front of the bytes after it
unfoldable pub pair : Option ℕ → Option ℕ → Option (List ℕ) → Option (List ℕ)
pair (Some h) (Some l) (Some s) = Some ((h * 16 + l) ∷ s)
pair (Some h) (Some l) None = None
pair (Some h) None s = None
pair None l s = None

-- none where the number of characters is odd or one is no digit
unfoldable pub decoded : List ℕ → Option (List ℕ)
unfolding pair digit
decoded [] = Some []
decoded (h ∷ []) = None
decoded (h ∷ l ∷ s) = pair (digit h) (digit l) (decoded s)

-- ---- Condition 3

-- the bytes that a line may have
unfoldable pub max_bytes : ℕ
max_bytes = 512

unfoldable pub at_most : ℕ → List ℕ → Option (List ℕ)
at_most n s = elim (leb (length s) n) [ true ↦ Some s | false ↦ None ]

unfoldable pub some_bytes : Option (List ℕ) → Option (List ℕ)
unfolding at_most max_bytes
some_bytes None = None
some_bytes (Some []) = None
some_bytes (Some (b ∷ s)) = at_most max_bytes (b ∷ s)

-- What a line holds; none where condition 3 is met.
unfoldable pub bytes_of : Line → Option (List ℕ)
unfolding some_bytes decoded
bytes_of (closed s) = some_bytes (decoded s)
bytes_of (unclosed s) = None
