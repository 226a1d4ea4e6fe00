-- Which types in hand reach an Error or a record that names a field twice, told by marks. There is a mark for each cell
-- and each unknown, and once they are settled it stands exactly where demand 3 admits the type.
use Rattle.std.specs.Prelude.{Bool, true, false, cond, List, ◌↔◌, ◌≡◌, ℕ, zero, suc, ◌+◌, ◌-◌, ◌≤◌, ◌<◌, eqb, ltb, length, get_or, set, None, Option, Some}
use Rattle.unification.specs.Bindings.{Subst, State}
use Rattle.unification.specs.Calls.{Admitted}
use Rattle.work.specs.Layout.{ENV, TYS}
use Rattle.cells.specs.declared.Ty.{Ty}
use Rattle.cells.specs.declared.Ty.TheVariants.{Int, Str, Bytes, Fact, Record, Union, Var, Error}
use Rattle.cells.specs.Words.{declared_w, count_w, field_w, parts_w, part_of_w, bound_w}
use Rattle.cells.specs.Stands.{Rows, tree, Ok, Holds, Keeps}

-- ---- The marks: 768 of the cells, by number, and then those of the unknowns

unfoldable pub marked : List ℕ → ℕ → Bool
marked w i = eqb (get_or w (ENV + i) 0) 1

-- The type that the mark at i is of; no type in hand has that mark where there is neither a cell nor an unknown.
unfoldable pub item_w : List ℕ → ℕ → Ty
unfolding declared_w
item_w w i = cond (ltb i 256) (declared_w w i) (cond (ltb i 768) (Record i) (Var (i - 768)))

-- What the marks say of a type in hand.
abbrev pub good_w : List ℕ → Ty → Bool
good_w w Int = true
good_w w Str = true
good_w w Bytes = true
good_w w (Fact p) = true
good_w w (Record c) = marked w c
good_w w (Union c) = marked w c
good_w w (Var x) = marked w (768 + x)
good_w w Error = false

-- ---- What the marks promise

-- The marks are settled: a type in hand is good exactly where it is admitted.
pub record MarksSettled (w : List ℕ) : Type 0 where
  pub exactly : (T : Rows) (st : State) → Holds w T st → (t : Ty) → Ok w t → (good_w w t ≡ true) ↔ Admitted st.subst (tree T t)

pub record Settles (w w' : List ℕ) : Type 0 where
  pub keeps : Keeps ENV TYS w w'
  pub settled : MarksSettled w'

-- ---- On the way

-- Nothing is good that is not admitted.
unfoldable pub MarksSound : List ℕ → Rows → Subst → Type 0
MarksSound w T s = (t : Ty) → Ok w t → good_w w t ≡ true → Admitted s (tree T t)

-- What a type holds at once is good, and a record names no field twice.
abbrev pub AllGood : List ℕ → Ty → Type 0
AllGood w t = (j : ℕ) → j < parts_w w t → good_w w (part_of_w w t j).ty ≡ true

abbrev pub LacksFrom : List ℕ → ℕ → ℕ → ℕ → Type 0
LacksFrom w c key from = (j : ℕ) → j < count_w w c → from ≤ j → ¬ (key ≡ (field_w w c j).key)

abbrev pub DistinctFields : List ℕ → ℕ → Type 0
DistinctFields w c = (i : ℕ) → i < count_w w c → LacksFrom w c (field_w w c i).key (i + 1)

abbrev pub BoundGood : List ℕ → Option Ty → Type 0
BoundGood w None = Unit {0}
BoundGood w (Some t) = good_w w t ≡ true

abbrev pub Holding : List ℕ → Ty → Type 0
Holding w Int = Unit {0}
Holding w Str = Unit {0}
Holding w Bytes = Unit {0}
Holding w (Fact p) = Unit {0}
Holding w (Record c) = AllGood w (Record c) × DistinctFields w c
Holding w (Union c) = AllGood w (Union c)
Holding w (Var x) = BoundGood w (bound_w w x)
Holding w Error = ⊥

-- One item, marked where it is unmarked and holds.
pub record MarksItem (w : List ℕ) (i : ℕ) (w' : List ℕ) (r : Bool) : Type 0 where
  pub new : r ≡ true → (w' ≡ set w (ENV + i) 1) × (marked w i ≡ false) × Holding w (item_w w i)
  pub old : r ≡ false → (w' ≡ w) × (marked w i ≡ false → ¬ Holding w (item_w w i))

-- how many of the first n marks do not stand
unfoldable pub unmarked : List ℕ → ℕ → ℕ
unfolding marked
unmarked w zero = 0
unmarked w (suc n) = cond (marked w n) 0 1 + unmarked w n

-- All items in turn.
pub record PassesItems (w w' : List ℕ) (r : Bool) : Type 0 where
  pub keeps : Keeps ENV TYS w w'
  pub sound : (T : Rows) (st : State) → Holds w T st → MarksSound w T st.subst → MarksSound w' T st.subst
  pub fewer : TYS ≤ length w → r ≡ true → unmarked w' 1280 < unmarked w 1280
  pub rests : r ≡ false → (i : ℕ) → i < 1280 → marked w' i ≡ false → ¬ Holding w' (item_w w' i)

pub record Unmarks (w w' : List ℕ) : Type 0 where
  pub keeps : Keeps ENV TYS w w'
  pub none : (i : ℕ) → i < 1280 → marked w' i ≡ false
