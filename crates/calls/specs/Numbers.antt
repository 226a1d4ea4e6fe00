-- How the answers of cells/src go as numbers.
use Rattle.std.specs.Prelude.{List, ◌≡◌, ℕ, set, Err, Ok, Result}
use Rattle.cells.specs.declared.TyError.{TyError}
use Rattle.cells.specs.Words.{ty_w}
use Rattle.cells.specs.Promises.{Unifies, unified_left}
use Rattle.cells.specs.declared.Failure.{Failure}

abbrev pub reason_of : TyError → ℕ
reason_of (TyError.Mismatch e g) = 1
reason_of (TyError.UnionMismatch d e g) = 2
reason_of (TyError.UnknownField n) = 3
reason_of TyError.Infinite = 4

abbrev pub field_of : TyError → ℕ
field_of (TyError.Mismatch e g) = 0
field_of (TyError.UnionMismatch d e g) = 0
field_of (TyError.UnknownField n) = n
field_of TyError.Infinite = 0

abbrev pub number_of : Result ℕ Failure → ℕ
number_of (Ok l) = 0
number_of (Err (Failure.Bad e l)) = reason_of e
number_of (Err Failure.Spent) = 5

abbrev pub name_of : Result ℕ Failure → ℕ
name_of (Ok l) = 0
name_of (Err (Failure.Bad e l)) = field_of e
name_of (Err Failure.Spent) = 0

abbrev pub two : List ℕ → ℕ → ℕ → List ℕ
two out a b = set (set out 0 a) 1 b

pub record CallsUnify (w : List ℕ) (got-tag got expected-tag expected left : ℕ) (w' out out' : List ℕ) (r : ℕ) : Type 0 where
  pub answer : Result ℕ Failure
  pub unifies : Unifies w (ty_w got-tag got) (ty_w expected-tag expected) left w' answer
  pub number : r ≡ number_of answer
  pub words : out' ≡ two out (unified_left answer) (name_of answer)
