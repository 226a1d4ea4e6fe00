-- Lists of bytes made of pieces: what both definitions of a text stand on.
use Rattle.std.specs.Prelude.{ℕ, suc, List, [], ◌∷◌, ◌++◌}

-- every element has the property
abbrev pub Every : (ℕ → Type 0) → List ℕ → Type 0
Every P [] = Unit {0}
Every P (b ∷ s) = P b × Every P s

-- n pieces of the kind C, one after the other: ABNF's `*( C )`, with the number of pieces
pub data Star (C : List ℕ → Type 0) : List ℕ → ℕ → Type 0 where
  none : Star C [] 0
  more : {a t : List ℕ} {n : ℕ} → C a → Star C t n → Star C (a ++ t) (suc n)
