-- J. A. Robinson, "A Machine-Oriented Logic Based on the Resolution Principle" (1965), section 5: substitution,
-- unifier, most general unifier, over types whose fields and alternatives are unordered.
use Rattle.std.specs.Prelude.{List, [], ◌∷◌, ℕ}
use Rattle.unification.specs.Ty.{Ty, app}
use Rattle.unification.specs.Order.{SameTy}

abbrev pub Substitution : Type 0
Substitution = ℕ → Ty

-- First θ, then μ.
abbrev pub ◌then◌ : Substitution → Substitution → Substitution
◌then◌ θ μ x = app μ (θ x)

pub record Equation : Type 0 where
  pub left : Ty
  pub right : Ty

-- θ makes the two sides of each equation the same.
abbrev pub IsUnifier : Substitution → List Equation → Type 0
IsUnifier θ [] = Unit {0}
IsUnifier θ (e ∷ es) = SameTy (app θ e.left) (app θ e.right) × IsUnifier θ es

-- Every other unifier is this one followed by some substitution.
pub record MostGeneral (θ : Substitution) (es : List Equation) : Type 0 where
  pub unifies : IsUnifier θ es
  pub general : (η : Substitution) → IsUnifier η es → (μ : Substitution) × ((x : ℕ) → SameTy (η x) (◌then◌ θ μ x))
