-- No unknown leads back to itself, so that every way along bindings ends. `NoLoop` of specs/Calls.antt follows from it
-- (proofs/Acyclic.antt).
use Rattle.std.specs.Prelude.{◌≡◌, ℕ, Some}
use mathlib.Core.WellFounded.{Acc}
use Rattle.unification.specs.Ty.{Ty, Var}
use Rattle.unification.specs.Bindings.{Subst, bound}
use Rattle.unification.specs.Calls.{LeadsTo}

-- y is reached behind the binding of x.
unfoldable pub Behind : Subst → ℕ → ℕ → Type 0
Behind s y x = (t : Ty) × (bound s x ≡ Some t) × LeadsTo s t (Var y)

unfoldable pub Acyclic : Subst → Type 0
Acyclic s = (x : ℕ) → Acc (Behind s) x
