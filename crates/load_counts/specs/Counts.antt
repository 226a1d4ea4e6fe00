-- What a line of a file or of its answer adds to the counts, read off its digits.
use Rattle.std.specs.Prelude.{List, ◌≡◌, ◌⊎◌, ℕ, ◌+◌, ◌*◌, ◌%◌, ◌^◌, get_or, unwrap_or}
use Rattle.format.specs.Lines.{digit}

-- The byte of two digits; a character that is no digit counts as 0.
abbrev pub byte_of : List ℕ → ℕ
byte_of p = 16 * unwrap_or (digit (get_or p 0 0)) 0 + unwrap_or (digit (get_or p 1 0)) 0

-- A count is a word of the machine, and wraps as that does.
abbrev pub one_more : ℕ → ℕ
one_more n = (n + 1) % 2 ^ 64

-- One of two counts has one more, and the other is as it was.
abbrev pub OneMore : ℕ → ℕ → ℕ → ℕ → Type 0
OneMore a b a' b' = (a' ≡ one_more a) × (b' ≡ b) ⊎ (a' ≡ a) × (b' ≡ one_more b)
