-- What the call promises, for every two files and every work slice.
use Rattle.std.specs.Prelude.{List, ◌≡◌, ℕ, length, replicate, Err, Ok, Result}
use Rattle.growth.specs.Premises.{premises, FirstFailing}
use Rattle.growth.specs.declared.Premise.{Premise}

-- The card's numbers.
abbrev pub number : Result (Unit {0}) Premise → ℕ
number (Ok tt) = 0
number (Err Premise.OldRefused) = 1
number (Err Premise.NewRefused) = 2
number (Err Premise.OtherChange) = 3
number (Err Premise.NamesAbsent) = 4

-- before the slice is cleared
pub record ComparesFiles (old new w w' : List ℕ) (r : Result (Unit {0}) Premise) : Type 0 where
  pub told : FirstFailing (premises (length w) old new) (number r)
  pub long : length w' ≡ length w

pub record ChecksGrowth (old new w w' : List ℕ) (r : Result (Unit {0}) Premise) : Type 0 where
  pub told : FirstFailing (premises (length w) old new) (number r)
  pub work : w' ≡ replicate (length w) 0
