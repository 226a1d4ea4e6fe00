-- What the entries from outside do to the purse that they are lent (src/lib.rt).
use Rattle.std.specs.Prelude.{Bool, List, ◌≡◌, ℕ, ◌+◌, ◌-◌, ◌<◌, ◌≤◌, Err, None, Ok, Option, Result, Some}
use Rattle.cells.specs.declared.Failure.{Failure}
use Rattle.cells.specs.declared.Ty.{Ty}
use Rattle.cells.specs.declared.TyError.{TyError}
use Rattle.cells.specs.Promises.{Unifies, IsOrderable}
use Rattle.unify.specs.declared.Purse.{Purse}

-- How many visits were made from it so far.
abbrev pub spent : Purse → ℕ
spent p = p.given - p.left

-- A u64 still counts so many more.
abbrev pub HasRoom : Purse → ℕ → Type 0
HasRoom p ceiling = spent p + ceiling < 18446744073709551616

-- As the cycle says it: the visits left, where nothing failed or with the failure; or that they ran out.
abbrev pub ok_left : Option (Result (Unit {0}) TyError) → ℕ → Result ℕ Failure
ok_left (Some (Ok u)) left = Ok left
ok_left (Some (Err e)) left = Err (Failure.Bad e left)
ok_left None left = Err Failure.Spent

abbrev pub yes_left : Option Bool → ℕ → Option (Bool × ℕ)
yes_left (Some b) left = Some (b, left)
yes_left None left = None

-- Where they ran out none is left.
abbrev pub NoneLeft : {A : Type 0} → Option A → ℕ → Type 0
NoneLeft r left = r ≡ None → left ≡ 0

abbrev pub UnifiesFrom : List ℕ → Ty → Ty → Purse → List ℕ → Purse → Option (Result (Unit {0}) TyError) → Type 0
UnifiesFrom w got expected p w' p' r = Unifies w got expected p.left w' (ok_left r p'.left) × NoneLeft r p'.left

abbrev pub OrderableFrom : List ℕ → Ty → Purse → Purse → Option Bool → Type 0
OrderableFrom w t p p' r = IsOrderable w t p.left (yes_left r p'.left) × NoneLeft r p'.left
