-- The answer to a question: yes exactly where P.
use Rattle.std.specs.Prelude.{Bool, true, false, ◌≡◌}

pub record Tells (P : Type 0) (r : Bool) : Type 0 where
  pub yes : r ≡ true → P
  pub no : r ≡ false → ¬ P
