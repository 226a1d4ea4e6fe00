-- What a line of the new file is beside a line of the old one, and what the walk through both promises.
use Rattle.std.specs.Prelude.{Bool, true, false, List, [], ◌∷◌, ◌⊎◌, ◌≡◌, ℕ, ◌≤◌, ◌<◌}
use Rattle.format.specs.Frame.{wide, kind_byte, name, predicate, Frame, frame_kind}
use Rattle.format.specs.Writing.{written, Writable}
use Rattle.convert.specs.Lines.{LinesAre}
use Rattle.growth.specs.declared.Beside.{Beside}
use Rattle.growth.specs.declared.Beside.TheVariants.{Same, Added, Other}

abbrev pub kind_of : Frame → ℕ
kind_of f = kind_byte (frame_kind f)

-- A name, a type or a predicate of the new file where the old one has come to a later kind: it stands after all old
-- ones of its kind.
pub record Addition (old new : Frame) : Type 0 where
  pub least : kind_byte name ≤ kind_of new
  pub most : kind_of new ≤ kind_byte predicate
  pub later : kind_of new < kind_of old

-- The second file's frames are the first's with additions.
abbrev pub WithAdditions : List Frame → List Frame → Type 0
WithAdditions [] [] = Unit {0}
WithAdditions [] (g ∷ gs) = ⊥
WithAdditions (f ∷ fs) [] = ⊥
WithAdditions (f ∷ fs) (g ∷ gs) = ((f ≡ g) × WithAdditions fs gs) ⊎ (Addition f g × WithAdditions (f ∷ fs) gs)

abbrev pub IsBeside : Frame → Frame → Beside → Type 0
IsBeside f g Same = f ≡ g
IsBeside f g Added = Addition f g
IsBeside f g Other = (f ≡ g → ⊥) × (Addition f g → ⊥)

pub record TellsBeside (a b : List ℕ) (r : Beside) : Type 0 where
  pub is : (f g : Frame) → a ≡ written wide f → b ≡ written wide g → Writable wide f → Writable wide g → IsBeside f g r

pub record TellsAdded (old new : List ℕ) (r : Bool) : Type 0 where
  pub added : (fs gs : List Frame) → LinesAre wide old fs → LinesAre wide new gs → r ≡ true → WithAdditions fs gs
  pub other : (fs gs : List Frame) → LinesAre wide old fs → LinesAre wide new gs → r ≡ false → WithAdditions fs gs → ⊥
