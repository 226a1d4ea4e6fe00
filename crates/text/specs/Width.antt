-- What the parts of the first test say, by the rule.
use Rattle.std.specs.Prelude.{ℕ, ◌≤◌, ◌≡◌, List, length, take}
use Rattle.text.specs.Star.{Every}
use Rattle.text.specs.Rule.{Character, Later, value}

-- s starts with a character of n bytes
pub record StartsWith (s : List ℕ) (n : ℕ) : Type 0 where
  pub within : n ≤ length s
  pub whole : Character (take n s)

abbrev pub StartsWithNone : List ℕ → Type 0
StartsWithNone s = (k : ℕ) → Character (take k s) → ⊥

-- v is the value of the later bytes t after what a first byte holds
pub record HasValue (held : ℕ) (t : List ℕ) (v : ℕ) : Type 0 where
  pub later : Every Later t
  pub is : v ≡ value held t
