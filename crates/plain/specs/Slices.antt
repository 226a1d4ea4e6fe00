-- A part of a list.
use Rattle.std.specs.Prelude.{List, ℕ, take, drop}

-- The items from one index up to another.
unfoldable pub slice : ℕ → ℕ → List ℕ → List ℕ
slice from to l = drop from (take to l)
