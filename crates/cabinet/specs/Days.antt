-- The groups that calls lead to, and what holds of each of them "whatever the others do".
use Rattle.std.specs.Prelude.{Result, Ok, List, ◌≡◌, ◌≢◌, ℕ, ◌+◌, ◌-◌, ◌<◌, ◌≤◌, min, length}
use Rattle.cabinet.specs.declared.Group.{Group}
use Rattle.cabinet.specs.Cabinet.{desk, Valid, ceiling_of, charged}
use Rattle.cabinet.specs.Promises.{Rests, SetsUp, left}

-- Any list of calls from a set-up that is not turned down: queries at any desks, each charged at most its ceiling of that
-- moment, and new days.
pub data LedToGroup : Group → Type 0 where
  set_up_lem : (pool : ℕ) (shares caps : List ℕ) {g : Group} → SetsUp pool shares caps (Ok g) → LedToGroup g
  query : {g : Group} → LedToGroup g → (d visits : ℕ) → d < g.count → visits ≤ ceiling_of g d → LedToGroup (charged g d visits)
  new_day : {g : Group} → LedToGroup g → (r : Result Group Group) → Rests g r → LedToGroup (left r)

-- The group with so many more visits used at a desk, and all else as it was.
pub record UsedMore (g : Group) (d visits : ℕ) (h : Group) : Type 0 where
  pub count : h.count ≡ g.count
  pub pool : h.pool ≡ g.pool
  pub long : length h.desks ≡ length g.desks
  pub its : d < length g.desks → desk h d ≡ record { share = (desk g d).share; cap = (desk g d).cap; used = (desk g d).used + visits }
  pub others : (i : ℕ) → i ≢ d → desk h i ≡ desk g i

-- "a desk's ceiling is never under the smaller of 1,048,576 and the unused rest of its share, and no use passes its
-- cap"
pub record Assured (g : Group) : Type 0 where
  pub valid : Valid g
  pub uses : (d : ℕ) → d < g.count → (desk g d).used ≤ (desk g d).cap
  pub shares : (d : ℕ) → d < g.count → min 1048576 ((desk g d).share - (desk g d).used) ≤ ceiling_of g d
