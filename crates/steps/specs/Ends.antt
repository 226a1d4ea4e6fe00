-- How a step of the code ends beside a step of the definition: the words after stand for the checker after, over rows
-- that hold those of before.
use Rattle.std.specs.Prelude.{List, ◌≡◌, ℕ, Err, None, Option, Result, Some}
use Rattle.unification.specs.Ty as Tree
use Rattle.unification.specs.Unify as Unify
use Rattle.cells.specs.declared.Ty.{Ty}
use Rattle.cells.specs.declared.TyError.{TyError}
use Rattle.cells.specs.Stands.{Rows, tree, Ok}
use Rattle.cells.specs.Promises.{IsError}
use Rattle.format.specs.File.{Described}
use Rattle.meaning.specs.Check.{Checker, Step, goes, out}
use Rattle.cells.specs.Inferred.{More}
use Rattle.state.specs.Runs.{Runs, Grew}
use Rattle.state.specs.Lines.{Told, AtEntry}
use Rattle.cells.specs.declared.Failure.{Failure}

-- ---- What the code gives back

-- For a value of the definition, with the visits left; and where the run ended.
pub record StepGives (A : Type 0) : Type 1 where
  pub Is : Rows → A → ℕ → Type 0
  pub Out : Type 0

-- A type in hand stands for the definition's.
pub record IsTyped (w : List ℕ) (r : Option (Ty × ℕ)) (T : Rows) (ty : Tree.Ty) (left : ℕ) : Type 0 where
  pub t : Ty
  pub res : r ≡ Some (t, left)
  pub ok : Ok w t
  pub is : tree T t ≡ ty

abbrev pub typed : List ℕ → Option (Ty × ℕ) → StepGives Tree.Ty
typed w r = record { Is = λ T ty left. IsTyped w r T ty left; Out = r ≡ None }

abbrev pub done : Option ℕ → StepGives (Unit {0})
done r = record { Is = λ T u left. r ≡ Some left; Out = r ≡ None }

-- The type is left out.
abbrev pub counted : Option ℕ → StepGives Tree.Ty
counted r = record { Is = λ T ty left. r ≡ Some left; Out = r ≡ None }

-- Nothing comes back, and no visits are spent.
abbrev pub silent : ℕ → StepGives (Unit {0})
silent left = record { Is = λ T u l. l ≡ left; Out = ⊥ }

-- An unknown's number comes back, and no visits are spent.
abbrev pub numbered : ℕ → ℕ → StepGives ℕ
numbered x left = record { Is = λ T v l. (x ≡ v) × (l ≡ left); Out = ⊥ }

-- A unification succeeds, or the error in hand stands for the definition's.
abbrev pub IsUnified : List ℕ → Result ℕ Failure → Rows → Option Unify.TyError → ℕ → Type 0
IsUnified w r T None left = r ≡ Result.Ok left
IsUnified w r T (Some e) left = (x : TyError) × (r ≡ Err (Failure.Bad x left)) × IsError w T x e

abbrev pub unified : List ℕ → Result ℕ Failure → StepGives (Option Unify.TyError)
unified w r = record { Is = λ T e left. IsUnified w r T e left; Out = r ≡ (Err Failure.Spent) }

-- ---- The end

-- At most n records and m fields of records were made; h is what the word of the visits left at an early end holds.
pub record Gone {A : Type 0} (f w ou w' ou' : List ℕ) (T : Rows) (d : Described) (n m : ℕ) (E : StepGives A) (a : A) (c : Checker) (h : ℕ) : Type 0 where
  pub T' : Rows
  pub more : More w T T'
  pub runs : Runs f w' T' d c
  pub lines : Told d w' ou' c h
  pub grew : Grew w w' n m
  pub is : E.Is T' a c.state.left

-- The run ended in this checker: no value comes back, and the code says so; where it was to last until an entry that
-- came, its sides stand in the words.
abbrev pub stopped : {A : Type 0} → List ℕ → Checker → StepGives A → StepGives (Unit {0})
stopped w c E = record { Is = λ T u left. E.Out × AtEntry w T c.until c.entries; Out = ⊥ }

-- Also where the run ended, by its visits or by what it was to last until, the words stand for the checker in which the
-- step stopped, and the visits that it had left are kept.
pub data StepEnds {A : Type 0} (f w ou w' ou' : List ℕ) (T : Rows) (d : Described) (n m : ℕ) (E : StepGives A) : Step A → Type 0 where
  went : {a : A} {c : Checker} → Gone f w ou w' ou' T d n m E a c 0 → StepEnds f w ou w' ou' T d n m E (goes a c)
  spent : {c : Checker} → Gone f w ou w' ou' T d n m (stopped w' c E) tt c c.state.left → StepEnds f w ou w' ou' T d n m E (out c)
