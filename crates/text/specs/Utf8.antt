-- RFC 3629, "UTF-8, a transformation format of ISO 10646", section 4, "Syntax of UTF-8 Byte Sequences":
--
--     UTF8-octets = *( UTF8-char )
--     UTF8-char   = UTF8-1 / UTF8-2 / UTF8-3 / UTF8-4
--     UTF8-1      = %x00-7F
--     UTF8-2      = %xC2-DF UTF8-tail
--     UTF8-3      = %xE0 %xA0-BF UTF8-tail / %xE1-EC 2( UTF8-tail ) /
--                   %xED %x80-9F UTF8-tail / %xEE-EF 2( UTF8-tail )
--     UTF8-4      = %xF0 %x90-BF 2( UTF8-tail ) / %xF1-F3 3( UTF8-tail ) /
--                   %xF4 %x80-8F 2( UTF8-tail )
--     UTF8-tail   = %x80-BF
use Rattle.std.specs.Prelude.{ℕ, suc, ◌≤◌, Bool, true, false, ◌&&◌, List, [], ◌∷◌, ◌++◌, leb, None, Option, Some}
use Rattle.text.specs.Star.{Star}

-- `%xLOW-HIGH`, here `LOW to HIGH`
pub record Range : Type 0 where
  pub low : ℕ
  pub high : ℕ

infix 80 ◌to◌
abbrev pub ◌to◌ : ℕ → ℕ → Range
l to h = record { low = l; high = h }

-- `%xBYTE`
abbrev pub only : ℕ → Range
only b = b to b

abbrev pub tail : Range
tail = 0x80 to 0xbf

-- Each rule as the list of its alternatives, in the RFC's order.
abbrev pub utf8_1 : List (List Range)
utf8_1 = (0x00 to 0x7f ∷ []) ∷ []

abbrev pub utf8_2 : List (List Range)
utf8_2 = (0xc2 to 0xdf ∷ tail ∷ []) ∷ []

abbrev pub utf8_3 : List (List Range)
utf8_3 =
    (only 0xe0 ∷ 0xa0 to 0xbf ∷ tail ∷ []) ∷
    (0xe1 to 0xec ∷ tail ∷ tail ∷ []) ∷
    (only 0xed ∷ 0x80 to 0x9f ∷ tail ∷ []) ∷
    (0xee to 0xef ∷ tail ∷ tail ∷ []) ∷
    []

abbrev pub utf8_4 : List (List Range)
utf8_4 =
    (only 0xf0 ∷ 0x90 to 0xbf ∷ tail ∷ tail ∷ []) ∷
    (0xf1 to 0xf3 ∷ tail ∷ tail ∷ tail ∷ []) ∷
    (only 0xf4 ∷ 0x80 to 0x8f ∷ tail ∷ tail ∷ []) ∷
    []

abbrev pub utf8_char : List (List Range)
utf8_char = utf8_1 ++ utf8_2 ++ utf8_3 ++ utf8_4

pub record InRange (r : Range) (b : ℕ) : Type 0 where
  pub low : r.low ≤ b
  pub high : b ≤ r.high

-- the bytes stand in the ranges, one in each
pub data FitsRanges : List Range → List ℕ → Type 0 where
  end : FitsRanges [] []
  then : {r : Range} {rs : List Range} {b : ℕ} {s : List ℕ} → InRange r b → FitsRanges rs s → FitsRanges (r ∷ rs) (b ∷ s)

-- the bytes fit one of the alternatives
pub data OneOf : List (List Range) → List ℕ → Type 0 where
  this : {rs : List Range} {g : List (List Range)} {s : List ℕ} → FitsRanges rs s → OneOf (rs ∷ g) s
  later : {rs : List Range} {g : List (List Range)} {s : List ℕ} → OneOf g s → OneOf (rs ∷ g) s

-- UTF8-char: the bytes of one character
abbrev pub Character : List ℕ → Type 0
Character s = OneOf utf8_char s

-- UTF8-octets, with the number of its characters
abbrev pub Text : List ℕ → ℕ → Type 0
Text s n = Star Character s n

-- The same as a function: the number of characters, or none where the bytes are no text. `counts` in
-- proofs/Grammar.antt ties the two.

abbrev pub inside : Range → ℕ → Bool
inside r b = leb r.low b && leb b r.high

-- what has to follow the first byte of a character
unfoldable pub following : List (List Range) → ℕ → Option (List Range)
following [] b = None
following ([] ∷ g) b = following g b
following ((r ∷ rs) ∷ g) b = elim (inside r b) [ true ↦ Some rs | false ↦ following g b ]

abbrev pub one_more : Option ℕ → Option ℕ
one_more None = None
one_more (Some n) = Some (suc n)

-- the number of characters that begin in s, where the last one before it still wants bytes in these ranges
unfoldable pub count : List (List Range) → List Range → List ℕ → Option ℕ
unfolding following
count g [] [] = Some 0
count g (r ∷ rs) [] = None
count g [] (b ∷ s) = elim (following g b) [ None ↦ None | Some rs ↦ one_more (count g rs s) ]
count g (r ∷ rs) (b ∷ s) = elim (inside r b) [ true ↦ count g rs s | false ↦ None ]

unfoldable pub characters : List ℕ → Option ℕ
unfolding count following
characters s = count utf8_char [] s
