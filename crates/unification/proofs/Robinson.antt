-- A substitution unifies the bindings as equations exactly where it respects them. Resolved through acyclic bindings, the
-- unknowns respect them; and any substitution that respects them is the same after resolving, so it is an instance.
use mathlib.Core.Bool.{Bool, true, false}
use mathlib.Core.List.{List, [], ◌∷◌}
use mathlib.Core.Logic.{◌↔◌}
use mathlib.Core.Path.{◌≡◌, refl, sym, ◌∙◌}
use Prim.Native.Nat.{ℕ, zero, suc, ◌+◌}
use native.Mathlib.Nat.{zero-add, add-zero}
use native.Mathlib.Omega.{arith}
use lib.ListN.{length, get_or}
use Rattle.unification.specs.Ty.{Ty, Var, app}
use Rattle.unification.specs.Order.{SameTy}
use Rattle.unification.specs.Robinson.{Substitution, ◌then◌, Equation, IsUnifier, MostGeneral}
use Rattle.unification.specs.Bindings.{Subst, bound, zonk_in, zonk, History, start, ended, rolled, State}
use Rattle.unification.specs.Unify.{Spent, unify}
use Rattle.unification.specs.Calls.{Side, Admitted, Respects, Machine, Calls, EntryClaim}
use Rattle.unification.specs.Tie.{equations_from, equations, solution, Together, AsRobinson, AllAsRobinson}
use Rattle.unification.proofs.Tests.{clash}
use Rattle.unification.proofs.Order.{same_refl, same_trans, same_app, app_same, app_app}
use Rattle.unification.specs.Acyclic.{Acyclic}
use Rattle.unification.proofs.Zonk.{zonk_none, zonk_bound, zonk_app, zonk_var, zonk_more, zonk_is}
use Rattle.unification.proofs.Post.{Any, Moments}
use Rattle.unification.proofs.Demand3.{Sound, unify_sound, calls_inv}
use Rattle.std.specs.Prelude.{None, Option, Some}

-- ---- An instance of a unifier is a unifier
pub unifies_then : (θ μ : Substitution) (es : List Equation) → IsUnifier θ es → IsUnifier (◌then◌ θ μ) es
unifies_then θ μ [] u = tt
unifies_then θ μ (e ∷ es) u =
    (rw (← app_app θ μ e.left, ← app_app θ μ e.right) (same_app μ (app θ e.left) (app θ e.right) u.0), unifies_then θ μ es u.1)

-- ---- Bindings as equations
pub shift : (x y : ℕ) → suc x + y ≡ x + suc y
shift x y = omega arith

module _ (θ : Substitution) where
  from_respects : (x : ℕ) (s : Subst) → ((y : ℕ) (t : Ty) → get_or s y None ≡ Some t → SameTy (θ (x + y)) (app θ t)) → IsUnifier θ (equations_from x s)
  unfolding equations_from app
  from_respects x [] h = tt
  from_respects x (None ∷ s) h = from_respects (suc x) s (λ y t e. rw (shift x y) (h (suc y) t e))
  from_respects x (Some t ∷ s) h = (rw (add-zero x) at (h zero t refl), from_respects (suc x) s (λ y u e. rw (shift x y) (h (suc y) u e)))

  to_respects : (x : ℕ) (s : Subst) → IsUnifier θ (equations_from x s) → (y : ℕ) (t : Ty) → get_or s y None ≡ Some t → SameTy (θ (x + y)) (app θ t)
  unfolding equations_from app
  to_respects x [] u y t e = clash (cc)
  to_respects x (None ∷ s) u zero t e = clash (cc)
  to_respects x (None ∷ s) u (suc y) t e = rw (← shift x y) (to_respects (suc x) s u y t e)
  to_respects x (Some w ∷ s) u zero t e = let q : w ≡ t = cc in rw (add-zero x, ← q) u.0
  to_respects x (Some w ∷ s) u (suc y) t e = rw (← shift x y) (to_respects (suc x) s u.1 y t e)

  pub unifies_respects : (s : Subst) → IsUnifier θ (equations s) ↔ Respects θ s
  unfolding equations Respects bound
  unifies_respects s =
      (λ u x t e. rw (zero-add x) at (to_respects zero s u x t e), λ R. from_respects zero s (λ y t e. rw (zero-add y) (R y t e)))

-- ---- Resolving
pub solution_respects : (s : Subst) → Acyclic s → Respects (solution s) s
unfolding Respects solution zonk
solution_respects s A x t e =
    let q : zonk s (Var x) ≡ app (solution s) t = sym (zonk_more s A (Var x)) ∙ zonk_bound (length s) s x t e ∙ zonk_is s A t in
    rw q (same_refl (app (solution s) t))

-- What respects the bindings does not notice resolving.
pub zonk_same : (k : ℕ) (η : Substitution) (s : Subst) (t : Ty) → Respects η s → SameTy (app η t) (app η (zonk_in k s t))
unfolding Respects app
zonk_same zero η s t R = rw (zonk_none s t) (same_refl (app η t))
zonk_same (suc k) η s t R =
    rw (zonk_app k s t, app_app (λ y. zonk_in (suc k) s (Var y)) η t)
    (app_same η (λ y. app η (zonk_in (suc k) s (Var y))) (λ y. zonk_var k s y (λ u. SameTy (η y) (app η u)) (λ e. same_refl (η y))
    (λ u e. same_trans (η y) (app η u) (app η (zonk_in k s u)) (R y u e) (zonk_same k η s u R))) t)

-- ---- The bindings after a success are a most general unifier
pub solution_general : (s : Subst) → Acyclic s → (es : List Equation) → ((η : Substitution) → IsUnifier η es ↔ Respects η s) → MostGeneral (solution s) es
unfolding solution zonk app
solution_general s A es h = record {
  unifies = (h (solution s)).1 (solution_respects s A);
  general = λ η u. (η, λ x. zonk_same (length s) η s (Var x) ((h η).0 u));
}

-- A unification that ended, by what it demands of substitutions.
as_robinson : (s : Subst) (a b : Ty) (ok : Bool) (s' : Subst) → Acyclic s' → EntryClaim Any s a b ok s' → Admitted s a → Admitted s b → AsRobinson s a b ok s'
unfolding EntryClaim
as_robinson s a b true s' A claim f g = solution_general s' A (Together s a b) (λ η.
    let e = unifies_respects η s in
    let i = claim f g η tt in
    (λ u. i.1 (e.0 u.1, u.0), λ R. let x = i.0 R in (x.1, e.1 x.0)))
as_robinson s a b false s' A claim f g = λ θ u. claim f g θ tt ((unifies_respects θ s).0 u.1) u.0

all_as_robinson : (h : History) → Moments h → AllAsRobinson h
all_as_robinson start c = tt
all_as_robinson (ended s a b ok s' h) c = ((λ f g. as_robinson s a b ok s' c.2 c.0 f g), all_as_robinson h c.3)
all_as_robinson (rolled past s s' h) c = all_as_robinson h c.4

-- Whatever calls led here: every unification so far, inner ones included, found a most general unifier or there is none. The same
-- where the visits ran out.
pub robinson : (v : ℕ) (tys : List (Option Ty)) (m : Machine) → Calls v tys m → AllAsRobinson m.state.history
robinson v tys m cs = all_as_robinson m.state.history (calls_inv v tys m cs).sound.known.moments

pub robinson_at_the_limit : (v : ℕ) (tys : List (Option Ty)) (m : Machine) → Calls v tys m → (a b : Ty) (st : State)
    → Side (length m.state.subst) a → Side (length m.state.subst) b → unify m.state a b ≡ Spent st → AllAsRobinson st.history
robinson_at_the_limit v tys m cs a b st i j e =
    let h : Sound st = rw e at (unify_sound m.state a b (calls_inv v tys m cs).sound i j) in
    all_as_robinson st.history h.known.moments

-- So a unification succeeds exactly where there is a unifier.
pub succeeds_exactly : (s : Subst) (a b : Ty) (ok : Bool) (s' : Subst) → AsRobinson s a b ok s'
    → (ok ≡ true) ↔ ((θ : Substitution) × IsUnifier θ (Together s a b))
succeeds_exactly s a b true s' r = (λ e. (solution s', r.unifies), λ u. refl)
succeeds_exactly s a b false s' r = (λ e. clash (cc), λ u. absurd (r u.0 u.1))
