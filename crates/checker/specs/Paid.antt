-- What a query costs of the purse that is lent to it.
use Rattle.std.specs.Prelude.{List, ◌≡◌, ℕ, ◌+◌, ◌-◌, ◌≤◌, ◌<◌, get_or, length, None, Option, Some}
use Rattle.work.specs.Layout.{LEFT}
use Rattle.unify.specs.declared.Purse.{Purse}
use Rattle.unify.specs.Purses.{spent}

-- No more was spent than the ceiling without what is left of it.
abbrev pub Pays : ℕ → Purse → Purse → Type 0
Pays ceiling p p' = spent p' ≤ spent p + (ceiling - p'.left)

-- What is left came back, or it was noted where the run ended early.
pub record Notes (w : List ℕ) (p : Purse) (r : Option ℕ) : Type 0 where
  pub back : (left : ℕ) → r ≡ Some left → left ≡ p.left
  pub noted : r ≡ None → LEFT < length w → get_or w LEFT 0 ≡ p.left
