-- The digits of a line with these bytes that starts at a place, and its end.
use Rattle.std.specs.Prelude.{List, ℕ, ◌+◌, ◌*◌, length, take, drop}

abbrev pub digits_at : List ℕ → ℕ → List ℕ → List ℕ
digits_at f at s = take (2 * length s + 1) (drop at f)
