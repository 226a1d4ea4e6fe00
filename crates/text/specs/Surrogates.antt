-- The open grammar, the one before card 2 of 02-change-requests.md: after ed stood 80 to bf, so that the values d800 to
-- dfff passed. The grammar of Utf8.antt is this one without them: `exactly` in proofs/Surrogates.antt.
use Rattle.std.specs.Prelude.{ℕ, List, [], ◌∷◌, ◌++◌, Option}
use Rattle.text.specs.Utf8.{Range, ◌to◌, only, tail, InRange, utf8_1, utf8_2, utf8_4, count, following}

abbrev pub utf8_3_open : List (List Range)
utf8_3_open =
    (only 0xe0 ∷ 0xa0 to 0xbf ∷ tail ∷ []) ∷
    (0xe1 to 0xec ∷ tail ∷ tail ∷ []) ∷
    (only 0xed ∷ 0x80 to 0xbf ∷ tail ∷ []) ∷
    (0xee to 0xef ∷ tail ∷ tail ∷ []) ∷
    []

abbrev pub utf8_char_open : List (List Range)
utf8_char_open = utf8_1 ++ utf8_2 ++ utf8_3_open ++ utf8_4

unfoldable pub characters_open : List ℕ → Option ℕ
unfolding count following
characters_open s = count utf8_char_open [] s

-- the three bytes of a value from d800 to dfff stand in s (`surrogate_values` in proofs/Surrogates.antt: they are those
-- values' bytes)
pub data HasSurrogate : List ℕ → Type 0 where
  here : {x y : ℕ} {t : List ℕ} → InRange (0xa0 to 0xbf) x → InRange tail y → HasSurrogate (0xed ∷ x ∷ y ∷ t)
  later : {b : ℕ} {s : List ℕ} → HasSurrogate s → HasSurrogate (b ∷ s)
