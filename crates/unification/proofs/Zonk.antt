-- Resolving a type through acyclic bindings: no bound unknown is left, since behind the binding of x the rest is resolved
-- without that binding, of which there is one fewer. So one step more changes nothing, and `zonk` is the application of the
-- substitution that resolves each unknown.
use mathlib.Core.Logic.{⊎_elim}
use mathlib.Core.Path.{◌≡◌, refl, sym, ◌∙◌, ap}
use Prim.Native.Nat.{ℕ, zero, suc, ◌+◌, ◌≤◌}
use native.Mathlib.Omega.{arith}
use lib.ListN.{length}
use Rattle.unification.specs.Ty.{Leaf, Kind, Ty, leaf, node, Var, Error, Row, ε, cell, app, app_row}
use Rattle.unification.specs.Bindings.{Subst, bound, follow, repr, zonk_in, zonk}
use Rattle.unification.specs.Calls.{LeadsTo, itself, inside, through, RowLeadsTo, first, later}
use Rattle.unification.specs.Tie.{solution}
use Rattle.unification.proofs.Tests.{clash}
use Rattle.unification.proofs.Order.{app_app, app_id, size, row_size}
use Rattle.unification.proofs.Reach.{reaches_trans, reaches_var}
use Rattle.unification.specs.Acyclic.{Acyclic}
use Rattle.unification.proofs.Chain.{leaf_reaches, error_reaches, node_reaches, nil_reaches, cell_reaches, not_behind, count, count_le, unset}
use Rattle.unification.proofs.Chain.{count_unset, unset_other, unset_acyclic, unset_reaches}
use Rattle.std.specs.Prelude.{None, Option, Some}

-- All unknowns in it are free.
unfoldable pub Solved : Subst → Ty → Type 0
Solved s t = (x : ℕ) → LeadsTo s t (Var x) → bound s x ≡ None

pub zonk_none : (s : Subst) (t : Ty) → zonk_in zero s t ≡ t
unfolding zonk_in
zonk_none s t = refl

pub zonk_free : (k : ℕ) (s : Subst) (x : ℕ) → bound s x ≡ None → zonk_in k s (Var x) ≡ Var x
unfolding zonk_in app
zonk_free zero s x e = refl
zonk_free (suc k) s x e = ap {B = Ty} (λ (o : Option Ty). elim o [ None ↦ Var x | Some u ↦ zonk_in k s u ]) e

pub zonk_bound : (k : ℕ) (s : Subst) (x : ℕ) (t : Ty) → bound s x ≡ Some t → zonk_in (suc k) s (Var x) ≡ zonk_in k s t
unfolding zonk_in app
zonk_bound k s x t e = ap {B = Ty} (λ (o : Option Ty). elim o [ None ↦ Var x | Some u ↦ zonk_in k s u ]) e

pub zonk_app : (k : ℕ) (s : Subst) (t : Ty) → zonk_in (suc k) s t ≡ app (λ x. zonk_in (suc k) s (Var x)) t
unfolding zonk_in app
zonk_app k s t = refl

-- What is reached in a type under a substitution is reached in what the substitution gives to an unknown of it.
mutual
  unfolding app

  app_reaches : (s : Subst) (f : ℕ → Ty) (t : Ty) (z : ℕ) → LeadsTo s (app f t) (Var z) → (y : ℕ) × LeadsTo s t (Var y) × LeadsTo s (f y) (Var z)
  app_reaches s f (leaf p) z h = absurd (leaf_reaches s p z h)
  app_reaches s f (node k r) z h = let x = app_row_reaches s f r z (node_reaches s k (app_row f r) z h) in (x.0, inside x.1, x.2)
  app_reaches s f (Var y) z h = (y, itself, h)
  app_reaches s f Error z h = absurd (error_reaches s z h)

  app_row_reaches : (s : Subst) (f : ℕ → Ty) (r : Row) (z : ℕ) → RowLeadsTo s (app_row f r) (Var z) → (y : ℕ) × RowLeadsTo s r (Var y) × LeadsTo s (f y) (Var z)
  app_row_reaches s f ε z h = absurd (nil_reaches s z h)
  app_row_reaches s f (cell k l t r) z h = ⊎_elim
      (λ i. let x = app_reaches s f t z i in (x.0, first x.1, x.2))
      (λ i. let x = app_row_reaches s f r z i in (x.0, later x.1, x.2))
      (cell_reaches s k l (app f t) (app_row f r) z h)

mutual
  unfolding app

  -- Two substitutions that give the same to what is reached give the same type.
  pub app_ext : (s : Subst) (f g : ℕ → Ty) (t : Ty) → ((x : ℕ) → LeadsTo s t (Var x) → f x ≡ g x) → app f t ≡ app g t
  app_ext s f g (leaf p) h = refl
  app_ext s f g (node k r) h = ap (node k) (app_row_ext s f g r (λ x i. h x (inside i)))
  app_ext s f g (Var x) h = h x itself
  app_ext s f g Error h = refl

  app_row_ext : (s : Subst) (f g : ℕ → Ty) (r : Row) → ((x : ℕ) → RowLeadsTo s r (Var x) → f x ≡ g x) → app_row f r ≡ app_row g r
  app_row_ext s f g ε h = refl
  app_row_ext s f g (cell k l t r) h = rw (app_ext s f g t (λ x i. h x (first i)), app_row_ext s f g r (λ x i. h x (later i)))

-- `zonk` at an unknown, by its binding.
pub zonk_var : (k : ℕ) (s : Subst) (x : ℕ) (Q : Ty → Type 0) → (bound s x ≡ None → Q (Var x)) → ((t : Ty) → bound s x ≡ Some t → Q (zonk_in k s t))
    → Q (zonk_in (suc k) s (Var x))
zonk_var k s x Q f g = go (bound s x) refl
  where
    go : (o : Option Ty) → bound s x ≡ o → Q (zonk_in (suc k) s (Var x))
    go None e = rw (zonk_free (suc k) s x e) (f e)
    go (Some t) e = rw (zonk_bound k s x t e) (g t e)

zonk_reaches : (k : ℕ) (s : Subst) (t : Ty) (z : ℕ) → LeadsTo s (zonk_in k s t) (Var z) → LeadsTo s t (Var z)
unfolding zonk_in
zonk_reaches zero s t z h = h
zonk_reaches (suc k) s t z h =
    let x = app_reaches s (λ y. zonk_in (suc k) s (Var y)) t z (rw (zonk_app k s t) at h) in
    reaches_trans s x.1 (zonk_var k s x.0 (λ u. LeadsTo s u (Var z) → LeadsTo s (Var x.0) (Var z)) (λ e i. i)
    (λ u e i. through e (zonk_reaches k s u z i)) x.2)

-- What does not reach x resolves without the binding of x.
zonk_unset : (k : ℕ) (s : Subst) (x : ℕ) (t : Ty) → ¬ LeadsTo s t (Var x) → zonk_in k (unset s x) t ≡ zonk_in k s t
unfolding zonk_in
zonk_unset zero s x t off = refl
zonk_unset (suc k) s x t off = zonk_app k (unset s x) t ∙ app_ext s _ _ t (each (λ u. zonk_unset k s x u)) ∙ sym (zonk_app k s t)
  where
    each : ((u : Ty) → ¬ LeadsTo s u (Var x) → zonk_in k (unset s x) u ≡ zonk_in k s u) → (y : ℕ) → LeadsTo s t (Var y)
        → zonk_in (suc k) (unset s x) (Var y) ≡ zonk_in (suc k) s (Var y)
    each ih y i =
        let same : bound (unset s x) y ≡ bound s y = unset_other s x y (λ p. off (rw (← p) i)) in
        zonk_var k s y (λ u. zonk_in (suc k) (unset s x) (Var y) ≡ u)
        (λ e. zonk_free (suc k) (unset s x) y (same ∙ e))
        (λ u e. zonk_bound k (unset s x) y u (same ∙ e) ∙ ih u (λ h. off (reaches_trans s i (through e h))))

solved_set : (s : Subst) (x : ℕ) (t : Ty) → ¬ LeadsTo s t (Var x) → Solved (unset s x) t → Solved s t
unfolding Solved
solved_set s x t off h z i = sym (unset_other s x z (λ p. off (rw (← p) i))) ∙ h z (unset_reaches s x off i)

solved_free : (s : Subst) (x : ℕ) → bound s x ≡ None → Solved s (Var x)
unfolding Solved
solved_free s x e z i = ⊎_elim (λ q. let p : x ≡ z = cc (q) in rw (← p) e) (λ c. clash (cc c.1)) (reaches_var s x (Var z) i)

-- At an unknown, if it is so behind its binding without that binding.
solved_var : (k : ℕ) (s : Subst) (x : ℕ) → Acyclic s → ((t : Ty) → bound s x ≡ Some t → Solved (unset s x) (zonk_in k (unset s x) t))
    → Solved s (zonk_in (suc k) s (Var x))
solved_var k s x A ih = zonk_var k s x (Solved s) (solved_free s x) behind
  where
    behind : (t : Ty) → bound s x ≡ Some t → Solved s (zonk_in k s t)
    behind t e =
        let off = not_behind s A x t e in
        solved_set s x (zonk_in k s t) (λ i. off (zonk_reaches k s t x i)) (rw (zonk_unset k s x t off) at (ih t e))

zonk_in_solved : (k : ℕ) (s : Subst) → count s ≤ k → Acyclic s → (t : Ty) → Solved s (zonk_in k s t)
unfolding zonk_in Solved
zonk_in_solved zero s le A t z h = go (bound s z) refl
  where
    go : (o : Option Ty) → bound s z ≡ o → bound s z ≡ None
    go None e = e
    go (Some u) e = absurd (omega (arith, count_unset s z u e))
zonk_in_solved (suc k) s le A t z h =
    let x = app_reaches s (λ y. zonk_in (suc k) s (Var y)) t z (rw (zonk_app k s t) at h) in
    solved_var k s x.0 A (λ u e. zonk_in_solved k (unset s x.0) (omega (arith, count_unset s x.0 u e)) (unset_acyclic s x.0 A) u) z x.2

pub zonk_solved : (s : Subst) → Acyclic s → (t : Ty) → Solved s (zonk s t)
unfolding zonk
zonk_solved s A t = zonk_in_solved (length s) s (count_le s) A t

-- ---- One step more
zonk_one : (s : Subst) (T : Ty) → Solved s T → zonk_in 1 s T ≡ T
unfolding Solved
zonk_one s T h = zonk_app 0 s T ∙ app_ext s (λ y. zonk_in 1 s (Var y)) (λ y. Var y) T (λ y i. zonk_free 1 s y (h y i)) ∙ app_id T

-- One step more may as well be made last.
zonk_last : (k : ℕ) (s : Subst) (t : Ty) → zonk_in (suc k) s t ≡ zonk_in 1 s (zonk_in k s t)
zonk_last zero s t = ap (zonk_in 1 s) (sym (zonk_none s t))
zonk_last (suc k) s t =
    zonk_app (suc k) s t
    ∙ app_ext s _ (λ y. app (λ z. zonk_in 1 s (Var z)) (zonk_in (suc k) s (Var y))) t
    (λ y i. each y (λ u. zonk_last k s u) ∙ zonk_app 0 s (zonk_in (suc k) s (Var y)))
    ∙ sym (zonk_app 0 s (zonk_in (suc k) s t) ∙ ap (app (λ z. zonk_in 1 s (Var z))) (zonk_app k s t) ∙ app_app (λ y. zonk_in (suc k) s (Var y))
    (λ z. zonk_in 1 s (Var z)) t)
  where
    each : (y : ℕ) → ((u : Ty) → zonk_in (suc k) s u ≡ zonk_in 1 s (zonk_in k s u)) → zonk_in (suc (suc k)) s (Var y) ≡ zonk_in 1 s (zonk_in (suc k) s (Var y))
    each y ih = go (bound s y) refl
      where
        go : (o : Option Ty) → bound s y ≡ o → zonk_in (suc (suc k)) s (Var y) ≡ zonk_in 1 s (zonk_in (suc k) s (Var y))
        go None e = zonk_free (suc (suc k)) s y e ∙ sym (ap (zonk_in 1 s) (zonk_free (suc k) s y e) ∙ zonk_free 1 s y e)
        go (Some u) e = zonk_bound (suc k) s y u e ∙ ih u ∙ sym (ap (zonk_in 1 s) (zonk_bound k s y u e))

-- A resolved type has nothing left to resolve.
pub zonk_more : (s : Subst) → Acyclic s → (t : Ty) → zonk_in (suc (length s)) s t ≡ zonk s t
unfolding zonk
zonk_more s A t = zonk_last (length s) s t ∙ zonk_one s (zonk s t) (zonk_solved s A t)

pub zonk_is : (s : Subst) → Acyclic s → (t : Ty) → zonk s t ≡ app (solution s) t
unfolding solution
zonk_is s A t = sym (zonk_more s A t) ∙ zonk_app (length s) s t ∙ app_ext s _ (solution s) t (λ y i. zonk_more s A (Var y))

-- ---- What `zonk` gives without a word of acyclicity
-- It replaces each unknown.
pub zonk_replaces : (s : Subst) (t : Ty) → zonk s t ≡ app (λ x. zonk s (Var x)) t
unfolding zonk zonk_in
zonk_replaces s t = go (length s)
  where
    go : (k : ℕ) → zonk_in k s t ≡ app (λ x. zonk_in k s (Var x)) t
    go zero = sym (app_id t)
    go (suc k) = zonk_app k s t

pub zonk_leaf : (s : Subst) (p : Leaf) → zonk s (leaf p) ≡ leaf p
unfolding app
zonk_leaf s p = zonk_replaces s (leaf p)

pub zonk_error : (s : Subst) → zonk s Error ≡ Error
unfolding app
zonk_error s = zonk_replaces s Error

pub zonk_node : (s : Subst) (k : Kind) (r : Row) → zonk s (node k r) ≡ node k (app_row (λ x. zonk s (Var x)) r)
unfolding app
zonk_node s k r = zonk_replaces s (node k r)

pub zonk_unbound : (s : Subst) (x : ℕ) → bound s x ≡ None → zonk s (Var x) ≡ Var x
unfolding zonk
zonk_unbound s x e = zonk_free (length s) s x e

-- ---- What `zonk` gives, by the shape of the type
module _ (s : Subst) (A : Acyclic s) where
  pub zonk_of_bound : (x : ℕ) (t : Ty) → bound s x ≡ Some t → zonk s (Var x) ≡ zonk s t
  unfolding zonk
  zonk_of_bound x t e = sym (zonk_more s A (Var x)) ∙ zonk_bound (length s) s x t e

  pub zonk_of_node : (k : Kind) (r : Row) → zonk s (node k r) ≡ node k (app_row (solution s) r)
  unfolding app
  zonk_of_node k r = zonk_is s A (node k r)

  follow_zonk : (j : ℕ) (t : Ty) → zonk s (follow j s t) ≡ zonk s t
  unfolding follow
  follow_zonk zero t = refl
  follow_zonk (suc j) (leaf p) = refl
  follow_zonk (suc j) (node k r) = refl
  follow_zonk (suc j) Error = refl
  follow_zonk (suc j) (Var x) = go (bound s x) refl (λ t. follow_zonk j t)
    where
      go : (o : Option Ty) → bound s x ≡ o → ((t : Ty) → zonk s (follow j s t) ≡ zonk s t) → zonk s (follow (suc j) s (Var x)) ≡ zonk s (Var x)
      go None e ih = rw (e, follow)
      go (Some t) e ih = rw (e, follow) (ih t ∙ sym (zonk_of_bound x t e))

  pub zonk_repr : (t : Ty) → zonk s (repr s t) ≡ zonk s t
  unfolding repr
  zonk_repr t = follow_zonk (suc (length s)) t

  -- A measure for walks that resolve as they go: it falls from a node to its cells.
  pub zonk_node_size : (k : Kind) (r : Row) → size (zonk s (node k r)) ≡ suc (row_size (app_row (solution s) r))
  unfolding size
  zonk_node_size k r = ap size (zonk_of_node k r)

  pub zonk_cell_size : (k l : ℕ) (t : Ty) (r : Row) → row_size (app_row (solution s) (cell k l t r)) ≡ size (zonk s t) + row_size (app_row (solution s) r)
  unfolding row_size app_row
  zonk_cell_size k l t r = rw (zonk_is s A t)
