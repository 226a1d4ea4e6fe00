-- The plain solver beside `unify`, after any list of calls, on sides that demand 3 admits: it fails exactly where `unify`
-- fails, and where both succeed the same substitutions respect the bindings of the one and of the other. Nothing of how
-- `unify` works is used: only that it succeeds exactly where a unifier of the sides and the bindings exists, and that its
-- bindings are then a most general one.
use mathlib.Core.List.{List, [], ◌∷◌}
use mathlib.Core.Logic.{◌↔◌}
use mathlib.Core.Path.{◌≡◌, refl}
use Prim.Native.Nat.{ℕ}
use lib.ListN.{length}
use Rattle.unification.specs.Ty.{Ty, Var, app}
use Rattle.unification.specs.Order.{SameTy}
use Rattle.unification.specs.Bindings.{Subst, State}
use Rattle.unification.specs.Unify.{Unified, Ok, Err, Spent, unify}
use Rattle.unification.specs.Robinson.{Substitution, ◌then◌, Equation, IsUnifier, MostGeneral}
use Rattle.unification.specs.Calls.{Side, Admitted, Respects, Machine, unification, failure, Calls, then_call}
use Rattle.unification.specs.Tie.{solution, Together}
use Rattle.unification.specs.Acyclic.{Acyclic}
use Rattle.unification.proofs.Order.{same_sym, same_trans, same_both, same_app, app_same, app_app}
use Rattle.unification.proofs.Demand3.{calls_inv}
use Rattle.unification.proofs.Kept.{Notes, unify_notes}
use Rattle.unification.proofs.Robinson.{unifies_then, solution_respects, robinson}
use Rattle.plain_theory.specs.Plain.{Binding, PlainResult, solved, failed, full, start}
use Rattle.plain_theory.specs.Solve.{solve}
use Rattle.plain_theory.specs.Claims.{Respected, Ends, Succeeds, Fails}
use Rattle.plain_theory.proofs.Runs.{Says, run_says, solve_runs}
use Rattle.plain_theory.proofs.Start.{resolving, start_holds, start_unifiable, start_clean}
use Rattle.std.specs.Prelude.{Option}

-- ---- A most general unifier is respected by the unifiers, and by nothing else

-- The same substitution, up to order, unifies the same.
unifies_like : (θ η : Substitution) → ((x : ℕ) → SameTy (θ x) (η x)) → (es : List Equation) → IsUnifier η es → IsUnifier θ es
unifies_like θ η h [] u = tt
unifies_like θ η h (e ∷ es) u = (
  same_both (app θ e.left) (app η e.left) (app θ e.right) (app η e.right) (app_same θ η h e.left) (app_same θ η h e.right)
      u.0,
  unifies_like θ η h es u.1,
)

module _ (s : Subst) (A : Acyclic s) (es : List Equation) (M : MostGeneral (solution s) es) (σ : Substitution) where
  respects_unifies : Respects σ s → IsUnifier σ es
  unfolding solution app
  respects_unifies R = unifies_like σ (◌then◌ (solution s) σ) (λ x. resolving σ s (Var x) R) es (unifies_then (solution s) σ es M.unifies)

  unifies_respected : IsUnifier σ es → Respects σ s
  unfolding Respects
  unifies_respected u x t e =
      let θ = solution s in
      let μ = (M.general σ u).0 in
      let h = (M.general σ u).1 in
      same_trans (σ x) (app μ (θ x)) (app σ t) (h x)
      (same_trans (app μ (θ x)) (app μ (app θ t)) (app σ t) (same_app μ (θ x) (app θ t) (solution_respects s A x t e))
      (rw (app_app θ μ t) (same_sym (app σ t) (app (◌then◌ θ μ) t) (app_same σ (◌then◌ θ μ) h t))))

-- ---- An ended unification succeeded or failed

failed_fails : (u : Unified) → Ends u → ¬ Succeeds u → Fails u
failed_fails (Ok st) e n = n tt
failed_fails (Err c st) e n = tt
failed_fails (Spent st) e n = e

fails_not : (u : Unified) → Fails u → ¬ Succeeds u
fails_not (Ok st) h s = h
fails_not (Err c st) h s = s
fails_not (Spent st) h s = h

-- ---- The two beside each other

module _ (v : ℕ) (tys : List (Option Ty)) (m : Machine) (cs : Calls v tys m) (a b : Ty) (i : Side (length m.state.subst) a)
    (j : Side (length m.state.subst) b)
    (f : Admitted m.state.subst a) (g : Admitted m.state.subst b) (lent : ℕ) where
  acyclic : Acyclic m.state.subst
  acyclic = (calls_inv v tys m cs).sound.wf.acyclic

  says : Says (start m.state.subst a b) (solve lent (start m.state.subst a b))
  says = run_says lent (start m.state.subst a b) (solve lent (start m.state.subst a b)) (solve_runs lent (start m.state.subst a b))
      (start_clean m.state.subst a b (calls_inv v tys m cs).sound.wf i j f g)

  -- What `unify` found: a most general unifier of the sides and the bindings, or that there is none.
  abbrev Found : Unified → Type 0
  Found (Ok st) = MostGeneral (solution st.subst) (Together m.state.subst a b)
  Found (Err e st) = (θ : Substitution) → ¬ IsUnifier θ (Together m.state.subst a b)
  Found (Spent st) = Unit {0}

  found : Found (unify m.state a b)
  found = go (unify m.state a b) refl (unify_notes m.state a b)
    where
      go : (u : Unified) → unify m.state a b ≡ u → Notes m.state.subst a b u → Found u
      go (Ok st) e n = (rw n.1 at (robinson v tys _ (then_call cs (unification {m = m} a b i j e)))).0 f g
      go (Err c st) e n = (rw n.1 at (robinson v tys _ (then_call cs (failure {m = m} a b c i j e)))).0 f g
      go (Spent st) e n = tt

  -- So it succeeds exactly where there is a unifier.
  succeeds_exactly : Ends (unify m.state a b) → Succeeds (unify m.state a b) ↔ ((θ : Substitution) × IsUnifier θ (Together m.state.subst a b))
  succeeds_exactly e = go (unify m.state a b) e found
    where
      go : (u : Unified) → Ends u → Found u → Succeeds u ↔ ((θ : Substitution) × IsUnifier θ (Together m.state.subst a b))
      go (Ok st) h r = (λ s. (solution st.subst, r.unifies), λ x. tt)
      go (Err c st) h r = (λ s. absurd s, λ x. r x.0 x.1)
      go (Spent st) h r = absurd h

  -- Solved: there is a unifier, so `unify` does not fail. Failed: there is none, so it does not succeed.
  solved_succeeds : (bs : List Binding) → solve lent (start m.state.subst a b) ≡ solved bs → Ends (unify m.state a b) → Succeeds (unify m.state a b)
  solved_succeeds bs q e = (succeeds_exactly e).1 (start_unifiable m.state.subst a b acyclic (rw q at says).1)

  failed_never : solve lent (start m.state.subst a b) ≡ failed → Ends (unify m.state a b) → ¬ Succeeds (unify m.state a b)
  failed_never q e h =
      let u = (succeeds_exactly e).0 h in
      (rw q at says) u.0 ((start_holds m.state.subst a b acyclic u.0).1 u.1)

  -- Unless there are too few words, and if the visits sufficed: it fails exactly where `unify` fails.
  pub fails_exactly : Ends (unify m.state a b) → ¬ (solve lent (start m.state.subst a b) ≡ full)
      → (solve lent (start m.state.subst a b) ≡ failed) ↔ Fails (unify m.state a b)
  fails_exactly e n = (λ q. failed_fails (unify m.state a b) e (failed_never q e), λ h. go (solve lent (start m.state.subst a b)) refl h)
    where
      go : (r : PlainResult) → solve lent (start m.state.subst a b) ≡ r → Fails (unify m.state a b) → solve lent (start m.state.subst a b) ≡ failed
      go (solved bs) q h = absurd (fails_not (unify m.state a b) h (solved_succeeds bs q e))
      go failed q h = q
      go full q h = absurd (n q)

  pub solves_exactly : Ends (unify m.state a b) → ¬ (solve lent (start m.state.subst a b) ≡ full)
      → ((bs : List Binding) × (solve lent (start m.state.subst a b) ≡ solved bs)) ↔ Succeeds (unify m.state a b)
  solves_exactly e n = (λ x. solved_succeeds x.0 x.1 e, λ h. go (solve lent (start m.state.subst a b)) refl h)
    where
      go : (r : PlainResult) → solve lent (start m.state.subst a b) ≡ r → Succeeds (unify m.state a b)
          → (bs : List Binding) × (solve lent (start m.state.subst a b) ≡ solved bs)
      go (solved bs) q h = (bs, q)
      go failed q h = absurd (failed_never q e h)
      go full q h = absurd (n q)

  -- Where both succeed: every substitution, so every assignment, respects the bindings of both or of neither.
  pub same_bindings : (st : State) (bs : List Binding) → unify m.state a b ≡ Ok st → solve lent (start m.state.subst a b) ≡ solved bs
      → (σ : ℕ → Ty) → Respects σ st.subst ↔ Respected σ bs
  same_bindings st bs e q σ =
      let A = (calls_inv v tys _ (then_call cs (unification {m = m} a b i j e))).sound.wf.acyclic in
      let M : MostGeneral (solution st.subst) (Together m.state.subst a b) = rw e at found in
      let h = start_holds m.state.subst a b acyclic σ in
      let k = (rw q at says).0 σ in (
        λ R. k.0 (h.1 (respects_unifies st.subst A (Together m.state.subst a b) M σ R)),
        λ R. unifies_respected st.subst A (Together m.state.subst a b) M σ (h.0 (k.1 R)),
      )
