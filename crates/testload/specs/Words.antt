-- 02-change-requests.md, card 11: "each 32-bit word is the sum, wrapping, of the words 24 and 55 before it; the first is the seed, and each of the
-- next 54 is the one before it plus 2,654,435,769, wrapping." Places count from 0, so that the 56th word stands at 55.
use Rattle.std.specs.Prelude.{true, false, List, [], ◌∷◌, ◌++◌, ◌≡◌, ℕ, zero, suc, ◌+◌, ◌-◌, ◌%◌, ◌^◌, ◌≤◌, eqb, ltb, get_or}

-- wrapping
unfoldable pub plus : ℕ → ℕ → ℕ
plus a b = (a + b) % 2 ^ 32

-- the word at place n, from those before it
unfoldable pub next : ℕ → ℕ → List ℕ → ℕ
unfolding plus
next seed n ws = elim (eqb n 0) [
  | true ↦ seed
  | false ↦ elim (ltb n 55) [ true ↦ plus (get_or ws (n - 1) 0) 2654435769 | false ↦ plus (get_or ws (n - 24) 0) (get_or ws (n - 55) 0) ]
]

-- the first words
unfoldable pub words : ℕ → ℕ → List ℕ
unfolding next
words seed zero = []
words seed (suc n) = words seed n ++ next seed n (words seed n) ∷ []

unfoldable pub word_at : ℕ → ℕ → ℕ
unfolding words
word_at seed n = get_or (words seed (suc n)) n 0

-- The same words from the 56th on.
abbrev pub AlikeFrom56 : List ℕ → List ℕ → Type 0
AlikeFrom56 ws us = (n : ℕ) → 55 ≤ n → get_or ws n 0 ≡ get_or us n 0
