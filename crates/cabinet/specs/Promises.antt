-- What the functions of src/ promise.
use Rattle.std.specs.Prelude.{Bool, IsTrue, Option, IfSome, IfNone, Result, Ok, Err, IsOk, IfOk, IfErr, List, ◌↔◌, ◌≡◌, ℕ, ◌<◌, length, get_or}
use Rattle.cabinet.specs.declared.Group.{Group}
use Rattle.cabinet.specs.Cabinet.{nobody, Rules, Valid, ceiling_of, rested, set_up}

abbrev pub Validates : Group → Bool → Type 0
Validates g r = IsTrue r ↔ Valid g

abbrev pub Made : ℕ → List ℕ → List ℕ → Group → Type 0
Made pool shares caps r = r ≡ set_up pool shares caps

-- A desk number of a valid group.
abbrev pub At : Group → ℕ → Type 0
At g d = Valid g × (d < g.count)

-- A desk of a group.
pub record DeskOf : Type 0 where
  pub group : Group
  pub desk : ℕ

abbrev pub IsAt : Group → ℕ → Bool → Type 0
IsAt g d r = IsTrue r ↔ At g d

pub record Ceils (g : Group) (d : ℕ) (r : Option ℕ) : Type 0 where
  pub given : IfSome r (λ n. At g d × (n ≡ ceiling_of g d))
  pub refused : IfNone r (¬ At g d)

pub record Rests (g : Group) (r : Result Group Group) : Type 0 where
  pub exactly : IsOk r ↔ Valid g
  pub rests : IfOk r (λ h. h ≡ rested g)
  pub unchanged : IfErr r (λ h. h ≡ g)

-- Shares and caps that a group can be set up with.
pub record AllowedShares (pool : ℕ) (shares caps : List ℕ) : Type 0 where
  pub pairs : length shares ≡ length caps
  pub rules : Rules (length shares) pool (λ i. get_or shares i 0) (λ i. get_or caps i 0)

pub record SetsUp (pool : ℕ) (shares caps : List ℕ) (r : Result Group Group) : Type 0 where
  pub exactly : IsOk r ↔ AllowedShares pool shares caps
  pub made : IfOk r (λ g. g ≡ set_up pool shares caps)
  pub turned_down : IfErr r (λ g. g ≡ nobody)

-- The value that a call leaves, whether it was refused or not.
abbrev pub left : {A : Type 0} → Result A A → A
left (Ok x) = x
left (Err x) = x
