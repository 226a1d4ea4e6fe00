-- Where `unify` of ty.rs meets Robinson's notions: it unifies its two sides together with the bindings, which are
-- equations, and what it binds is a most general unifier of them.
use Rattle.std.specs.Prelude.{Bool, true, false, List, [], ◌∷◌, ℕ, zero, suc, None, Some}
use Rattle.unification.specs.Ty.{Ty, Var}
use Rattle.unification.specs.Bindings.{Subst, zonk, History, start, ended, rolled}
use Rattle.unification.specs.Calls.{Admitted}
use Rattle.unification.specs.Robinson.{Substitution, Equation, IsUnifier, MostGeneral}

-- The bindings from the x-th unknown on: each bound one equals what it is bound to.
unfoldable pub equations_from : ℕ → Subst → List Equation
equations_from x [] = []
equations_from x (None ∷ s) = equations_from (suc x) s
equations_from x (Some t ∷ s) = record { left = Var x; right = t } ∷ equations_from (suc x) s

unfoldable pub equations : Subst → List Equation
unfolding equations_from
equations s = equations_from zero s

-- The bindings as a substitution: each unknown resolved.
unfoldable pub solution : Subst → Substitution
unfolding zonk
solution s x = zonk s (Var x)

-- The two sides and the bindings.
abbrev pub Together : Subst → Ty → Ty → List Equation
Together s a b = record { left = a; right = b } ∷ equations s

-- A unification that ended. Success: the bindings after it are a most general unifier. Failure: there is no unifier.
abbrev pub AsRobinson : Subst → Ty → Ty → Bool → Subst → Type 0
AsRobinson s a b true s' = MostGeneral (solution s') (Together s a b)
AsRobinson s a b false s' = (θ : Substitution) → ¬ IsUnifier θ (Together s a b)

-- Every unification of a history that demand 3's proviso admits, those inside another included.
abbrev pub AllAsRobinson : History → Type 0
AllAsRobinson start = Unit {0}
AllAsRobinson (ended s a b ok s' h) = (Admitted s a → Admitted s b → AsRobinson s a b ok s') × AllAsRobinson h
AllAsRobinson (rolled past s s' h) = AllAsRobinson h
