-- Substitutions that respect bindings: binding a free unknown adds the one equation, and following a chain keeps a type
-- the same.
use mathlib.Core.Logic.{◌↔◌, by_cases}
use mathlib.Core.Path.{◌≡◌, refl, sym, ◌∙◌}
use Prim.Native.Nat.{ℕ, zero, suc, ◌<◌}
use native.Mathlib.Decide.{ℕ_discrete}
use lib.ListN.{length, set}
use Rattle.unification.specs.Ty.{Ty, leaf, node, Var, Error, app}
use Rattle.unification.specs.Order.{SameTy}
use Rattle.unification.specs.Bindings.{Subst, bound, follow, repr}
use Rattle.unification.specs.Calls.{Respects}
use Rattle.unification.proofs.Tests.{clash}
use Rattle.unification.proofs.Order.{same_refl, same_trans}
use Rattle.unification.proofs.Reach.{bound_same, bound_other}
use Rattle.unification.proofs.Acyclic.{Among}
use Rattle.std.specs.Prelude.{None, Option, Some}

pub respects_among : (σ : ℕ → Ty) (s' s : Subst) → Among s' s → Respects σ s → Respects σ s'
unfolding Respects
respects_among σ s' s a R x t e = R x t (a x t e)

pub respects_bind : (σ : ℕ → Ty) (s : Subst) (x : ℕ) (t : Ty) → x < length s → bound s x ≡ None
    → Respects σ (set s x (Some t)) ↔ (Respects σ s × SameTy (σ x) (app σ t))
unfolding Respects
respects_bind σ s x t lt free = (
  λ R. (
    λ y u e. by_cases (ℕ_discrete y x)
        (λ p. clash (cc))
        (λ n. R y u (bound_other s x y (Some t) n ∙ e)),
    R x t (bound_same s x (Some t) lt),
  ),
  λ R y u e. by_cases (ℕ_discrete y x)
      (λ p. let q : t ≡ u = cc (bound_same s x (Some t) lt) in rw (p, ← q) R.1)
      (λ n. R.0 y u (sym (bound_other s x y (Some t) n) ∙ e)),
)

follow_same : (k : ℕ) (σ : ℕ → Ty) (s : Subst) (t : Ty) → Respects σ s → SameTy (app σ t) (app σ (follow k s t))
unfolding follow app Respects
follow_same zero σ s t R = same_refl (app σ t)
follow_same (suc k) σ s (leaf p) R = refl
follow_same (suc k) σ s (node c r) R = same_refl (app σ (node c r))
follow_same (suc k) σ s Error R = tt
follow_same (suc k) σ s (Var x) R = go (bound s x) refl (λ t. follow_same k σ s t R)
  where
    go : (o : Option Ty) → bound s x ≡ o → ((t : Ty) → SameTy (app σ t) (app σ (follow k s t))) → SameTy (σ x) (app σ (follow (suc k) s (Var x)))
    go None e ih = rw (e, follow) (same_refl (σ x))
    go (Some t) e ih = rw (e, follow) (same_trans (σ x) (app σ t) (app σ (follow k s t)) (R x t e) (ih t))

pub repr_same : (σ : ℕ → Ty) (s : Subst) (t : Ty) → Respects σ s → SameTy (app σ t) (app σ (repr s t))
unfolding repr
repr_same σ s t R = follow_same (suc (length s)) σ s t R
