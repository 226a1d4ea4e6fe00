-- What was given back together with the visits left, where it is known what was given back.
use mathlib.Core.Path.{◌≡◌, ◌∙◌, ap}
use Prim.Native.Nat.{ℕ}
use Rattle.state.specs.Running.{with_left, left_if}
use Rattle.unify.specs.Purses.{ok_left}
use Rattle.std.specs.Prelude.{Err, None, Ok, Option, Result, Some}
use Rattle.cells.specs.declared.Failure.{Failure}
use Rattle.cells.specs.declared.TyError.{TyError}

pub took : {A : Type 0} {r : Option A} {a : A} {left : ℕ} → r ≡ Some a → with_left r left ≡ Some (a, left)
took {left = left} e = ap (λ o. with_left o left) e

pub took_none : {A : Type 0} {r : Option A} (left : ℕ) → r ≡ None → with_left r left ≡ None
took_none left e = ap (λ o. with_left o left) e

pub went_on : {r : Option (Unit {0})} {u : Unit {0}} {left : ℕ} → r ≡ Some u → left_if r left ≡ Some left
went_on {left = left} e = ap (λ o. left_if o left) e

pub went_none : {r : Option (Unit {0})} (left : ℕ) → r ≡ None → left_if r left ≡ None
went_none left e = ap (λ o. left_if o left) e

module _ {r : Option (Result (Unit {0}) TyError)} {x : Result (Unit {0}) TyError} (e : r ≡ Some x) where
  pub succeeded : {u : Unit {0}} {left : ℕ} → x ≡ Ok u → ok_left r left ≡ Ok left
  succeeded {left = left} q = ap (λ o. ok_left o left) (e ∙ ap Some q)

  pub failed : {err : TyError} (left : ℕ) → x ≡ Err err → ok_left r left ≡ Err (Failure.Bad err left)
  failed left q = ap (λ o. ok_left o left) (e ∙ ap Some q)

pub ended : {r : Option (Result (Unit {0}) TyError)} (left : ℕ) → r ≡ None → ok_left r left ≡ Err Failure.Spent
ended left e = ap (λ o. ok_left o left) e
