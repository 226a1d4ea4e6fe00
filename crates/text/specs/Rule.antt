-- The rule for texts in the words of 01-scope.md, "Frame lines": "a byte below 80 stands alone; otherwise the number of
-- leading one bits of the first byte, 2 to 4, is the length, later bytes are 80 to bf, and the value is not below 80,
-- 800 or 10000 for that length and not above 10ffff (hexadecimal)"; and of 02-change-requests.md, card 2: "RFC 3629
-- forbids the values d800 to dfff (hexadecimal)". `same_text_lem` in proofs/Agree.antt shows that it is the grammar of
-- Utf8.antt.
use Rattle.std.specs.Prelude.{ℕ, zero, suc, ◌+◌, ◌-◌, ◌*◌, ◌%◌, ◌^◌, ◌≤◌, ◌<◌, true, false, ◌≡◌, List, [], ◌∷◌, leb, length, get_or}
use Rattle.text.specs.Star.{Every, Star}

-- the one bits that a number of so many bits starts with
unfoldable pub ones_of : ℕ → ℕ → ℕ
ones_of zero b = 0
ones_of (suc k) b = elim (leb (2 ^ k) b) [ true ↦ suc (ones_of k (b - 2 ^ k)) | false ↦ 0 ]

unfoldable pub ones : ℕ → ℕ
unfolding ones_of
ones b = ones_of 8 b

-- what the first byte holds after its ones and the zero bit that ends them
unfoldable pub head : ℕ → ℕ
head b = b % 2 ^ (7 - ones b)

-- v, then six bits from each of the bytes
unfoldable pub value : ℕ → List ℕ → ℕ
value v [] = v
value v (b ∷ t) = value (v * 64 + b % 64) t

-- the least value for each length
abbrev pub least : ℕ → ℕ
least n = get_or (0 ∷ 0 ∷ 0x80 ∷ 0x800 ∷ 0x10000 ∷ []) n 0

pub record Later (b : ℕ) : Type 0 where
  pub low : 0x80 ≤ b
  pub high : b ≤ 0xbf

-- not from d800 to dfff, the halves of UTF-16's pairs
abbrev pub Scalar : ℕ → Type 0
Scalar v = 0xd800 ≤ v → 0xdfff < v

-- a first byte and the later bytes of a sequence
pub record Sequence (b : ℕ) (t : List ℕ) : Type 0 where
  pub two : 2 ≤ ones b
  pub four : ones b ≤ 4
  pub long : 1 + length t ≡ ones b
  pub tail : Every Later t
  pub low : least (ones b) ≤ value (head b) t
  pub high : value (head b) t ≤ 0x10ffff
  pub scalar : Scalar (value (head b) t)

-- a byte with two leading ones is not below 80, so no bytes are both
pub data Character : List ℕ → Type 0 where
  alone : {b : ℕ} → b < 0x80 → Character (b ∷ [])
  several : {b : ℕ} {t : List ℕ} → Sequence b t → Character (b ∷ t)

abbrev pub Text : List ℕ → ℕ → Type 0
Text s n = Star Character s n
