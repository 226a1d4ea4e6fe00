-- The second test (02-change-requests.md, card 13): the class of a byte, and the states of a machine that reads
-- classes. A state is a list of ranges that the character begun still wants, so what a step has to do is said by the
-- grammar of Utf8.antt.
use Rattle.std.specs.Prelude.{true, false, List, [], ◌∷◌, ◌≡◌, ℕ, ◌≤◌, ltb, get_or, None, Option, Some}
use Rattle.text.specs.Utf8.{Range, ◌to◌, tail, inside, following, utf8_char}

-- the class of the first range that ends above the byte
unfoldable pub first_above : ℕ → List (ℕ × ℕ) → ℕ
first_above b [] = 11
first_above b (p ∷ ps) = elim (ltb b p.0) [ true ↦ p.1 | false ↦ first_above b ps ]

-- Each range by its end: 00-7f, 80-8f, 90-9f, a0-bf, c0-c1 (in no text), c2-df, e0, e1-ec, ed, ee-ef, f0, f1-f3, f4,
-- and f5-ff in no text.
unfoldable pub class_of : ℕ → ℕ
unfolding first_above
class_of b =
    first_above b
    ((0x80, 0) ∷ (0x90, 1) ∷ (0xa0, 2) ∷ (0xc0, 3) ∷ (0xc2, 11) ∷ (0xe0, 4) ∷ (0xe1, 5) ∷ (0xed, 6) ∷ (0xee, 7) ∷ (0xf0, 6) ∷ (0xf1, 8) ∷ (0xf4, 9) ∷
    (0xf5, 10) ∷ [])

-- what each state wants
abbrev pub states : List (Option (List Range))
states =
    Some [] ∷
    Some (tail ∷ []) ∷
    Some (tail ∷ tail ∷ []) ∷
    Some (tail ∷ tail ∷ tail ∷ []) ∷
    Some (0xa0 to 0xbf ∷ tail ∷ []) ∷
    Some (0x80 to 0x9f ∷ tail ∷ []) ∷
    Some (0x90 to 0xbf ∷ tail ∷ tail ∷ []) ∷
    Some (0x80 to 0x8f ∷ tail ∷ tail ∷ []) ∷
    []

-- past them no text
abbrev pub wanted : ℕ → Option (List Range)
wanted state = get_or states state None

-- what is wanted after one more byte, by the grammar
unfoldable pub after : Option (List Range) → ℕ → Option (List Range)
unfolding following
after None b = None
after (Some []) b = following utf8_char b
after (Some (r ∷ rs)) b = elim (inside r b) [ true ↦ Some rs | false ↦ None ]

-- what is wanted at r is what the grammar wants after one more byte
pub record Steps (state b r : ℕ) : Type 0 where
  pub small : r ≤ 8
  pub is : wanted r ≡ after (wanted state) b

-- no character has that byte there
abbrev pub NoSuchByte : ℕ → ℕ → Type 0
NoSuchByte state b = after (wanted state) b ≡ None
