-- The start: resolved sides and resolved bindings hold for the same substitutions as the sides and the bindings do; and on
-- sides that demand 3 admits no row of the pair has a key twice.
use mathlib.Core.List.{[], ◌∷◌}
use mathlib.Core.Logic.{◌↔◌, inl, inr}
use mathlib.Core.Path.{◌≡◌, refl}
use Prim.Native.Nat.{ℕ, zero, suc, ◌+◌}
use native.Mathlib.Nat.{zero-add, add-zero}
use lib.ListN.{length, get_or}
use Rattle.unification.specs.Ty.{Kind, Record, Union, Ty, leaf, node, Var, Error, Row, ε, cell, app}
use Rattle.unification.specs.Order.{SameTy}
use Rattle.unification.specs.Bindings.{Subst, bound, zonk_in, zonk}
use Rattle.unification.specs.Robinson.{Substitution, ◌then◌, IsUnifier}
use Rattle.unification.specs.Calls.{Declared, DeclaredRow, Side, SideRow, LeadsTo, itself, inside, through, RowLeadsTo, first, later, Allowed, Admitted}
use Rattle.unification.specs.Calls.{Respects}
use Rattle.unification.specs.Tie.{equations, solution, Together}
use Rattle.unification.specs.Acyclic.{Acyclic}
use Rattle.unification.proofs.Tests.{clash}
use Rattle.unification.proofs.Order.{same_refl, same_sym, same_trans, same_both, app_same, app_app}
use Rattle.unification.proofs.Reach.{reaches_trans}
use Rattle.unification.proofs.Zonk.{zonk_none, zonk_app, zonk_var, zonk_is, zonk_unbound, zonk_of_bound}
use Rattle.unification.specs.Log.{Wf}
use Rattle.unification.proofs.Robinson.{shift, unifies_respects, unifies_then, solution_respects, zonk_same}
use Rattle.plain_theory.specs.Plain.{In, InRow, resolved_from, start}
use Rattle.plain_theory.specs.Claims.{Respected, Satisfies, Clean, CleanRow, CleanPairs}
use Rattle.plain_theory.proofs.Steps.{clean_replaced, Unifiable}
use Rattle.std.specs.Prelude.{None, Option, Some}

-- ---- Resolving, for what respects the bindings

pub resolving : (σ : Substitution) (s : Subst) (t : Ty) → Respects σ s → SameTy (app σ t) (app σ (zonk s t))
unfolding zonk
resolving σ s t R = zonk_same (length s) σ s t R

-- ---- The resolved bindings

abbrev Resolves : (ℕ → Ty) → Subst → ℕ → Type 0
Resolves σ s x = SameTy (σ x) (app σ (zonk s (Var x)))

module _ (σ : ℕ → Ty) (s : Subst) where
  to_list : (x : ℕ) (us : Subst) → ((y : ℕ) (t : Ty) → get_or us y None ≡ Some t → Resolves σ s (x + y)) → Respected σ (resolved_from x us s)
  unfolding resolved_from
  to_list x [] h = tt
  to_list x (None ∷ us) h = to_list (suc x) us (λ y t e. rw (shift x y) (h (suc y) t e))
  to_list x (Some t ∷ us) h = (rw (add-zero x) at (h zero t refl), to_list (suc x) us (λ y u e. rw (shift x y) (h (suc y) u e)))

  of_list : (x : ℕ) (us : Subst) → Respected σ (resolved_from x us s) → (y : ℕ) (t : Ty) → get_or us y None ≡ Some t → Resolves σ s (x + y)
  unfolding resolved_from
  of_list x [] h y t e = clash (cc)
  of_list x (None ∷ us) h zero t e = clash (cc)
  of_list x (None ∷ us) h (suc y) t e = rw (← shift x y) (of_list (suc x) us h y t e)
  of_list x (Some w ∷ us) h zero t e = rw (add-zero x) h.0
  of_list x (Some w ∷ us) h (suc y) t e = rw (← shift x y) (of_list (suc x) us h.1 y t e)

  -- If every bound unknown resolves, every unknown does, and then the bindings are respected.
  all_resolve : ((x : ℕ) (t : Ty) → bound s x ≡ Some t → Resolves σ s x) → (x : ℕ) → Resolves σ s x
  unfolding app
  all_resolve h x = go (bound s x) refl
    where
      go : (o : Option Ty) → bound s x ≡ o → Resolves σ s x
      go None e = rw (zonk_unbound s x e) (same_refl (σ x))
      go (Some t) e = h x t e

  resolves_respects : Acyclic s → ((x : ℕ) → Resolves σ s x) → Respects σ s
  unfolding Respects solution
  resolves_respects A h x t e =
      let q : app σ (zonk s (Var x)) ≡ app (λ y. app σ (zonk s (Var y))) t = rw (zonk_of_bound s A x t e, zonk_is s A t) (app_app (solution s) σ t) in
      same_trans (σ x) (app σ (zonk s (Var x))) (app σ t) (h x)
      (rw q (same_sym (app σ t) (app (λ y. app σ (zonk s (Var y))) t) (app_same σ (λ y. app σ (zonk s (Var y))) h t)))

  pub resolved_respected : Acyclic s → Respected σ (resolved_from zero s s) ↔ Respects σ s
  unfolding bound app
  resolved_respected A = (
    λ h. resolves_respects A (all_resolve (λ x t e. rw (zero-add x) at (of_list zero s h x t e))),
    λ R. to_list zero s (λ y t e. rw (zero-add y) (resolving σ s (Var y) R)),
  )

pub start_holds : (s : Subst) (a b : Ty) → Acyclic s → (σ : ℕ → Ty) → Satisfies σ (start s a b) ↔ IsUnifier σ (Together s a b)
unfolding start
start_holds s a b A σ =
    let r = resolved_respected σ s A in
    let e = unifies_respects σ s in
    let za = app σ (zonk s a) in
    let zb = app σ (zonk s b) in (
      λ h. let R = r.0 h.1 in (same_both (app σ a) za (app σ b) zb (resolving σ s a R) (resolving σ s b R) h.0.0, e.1 R),
      λ u. let R = e.0 u.1 in
          ((same_both za (app σ a) zb (app σ b) (same_sym (app σ a) za (resolving σ s a R)) (same_sym (app σ b) zb (resolving σ s b R)) u.0, tt), r.1 R),
    )

-- A unifier of the resolved sides: first resolve.
pub start_unifiable : (s : Subst) (a b : Ty) → Acyclic s → Unifiable (start s a b).pairs → (θ : Substitution) × IsUnifier θ (Together s a b)
unfolding start
start_unifiable s a b A u =
    let σ = u.0 in
    let θ = ◌then◌ (solution s) σ in (
      θ,
      (
        rw (← app_app (solution s) σ a, ← app_app (solution s) σ b, ← zonk_is s A a, ← zonk_is s A b) u.1.0,
        unifies_then (solution s) σ (equations s) ((unifies_respects (solution s) s).1 (solution_respects s A)),
      ),
    )

-- ---- Clean

mutual
  clean_declared : (t : Ty) → Declared t → Clean t
  clean_declared (leaf p) h = tt
  clean_declared (node k r) h = (h.0, clean_row_declared k r h.1)
  clean_declared (Var x) h = absurd h
  clean_declared Error h = absurd h

  clean_row_declared : (k : Kind) (r : Row) → DeclaredRow k r → CleanRow k r
  clean_row_declared k ε h = tt
  clean_row_declared k (cell m l t r) h = (h.0, clean_declared t h.1, clean_row_declared k r h.2)

mutual
  unfolding Admitted

  clean_side : (n : ℕ) (s : Subst) (t : Ty) → Side n t → Admitted s t → Clean t
  clean_side n s (leaf p) i g = tt
  clean_side n s (node Record r) i g = (g (node Record r) itself, clean_row_side n s r i (λ u h. g u (inside h)))
  clean_side n s (node Union r) i g = clean_declared (node Union r) i
  clean_side n s (Var x) i g = tt
  clean_side n s Error i g = tt

  clean_row_side : (n : ℕ) (s : Subst) (r : Row) → SideRow n r → ((u : Ty) → RowLeadsTo s r u → Allowed u) → CleanRow Record r
  clean_row_side n s ε i g = tt
  clean_row_side n s (cell k l t r) i g = (i.0, clean_side n s t i.1 (λ u h. g u (first h)), clean_row_side n s r i.2 (λ u h. g u (later h)))

mutual
  pub in_reaches : (s : Subst) (y : ℕ) (t : Ty) → In y t → LeadsTo s t (Var y)
  in_reaches s y (leaf p) h = absurd h
  in_reaches s y (node k r) h = inside (in_row_reaches s y r h)
  in_reaches s y (Var x) h = rw h itself
  in_reaches s y Error h = absurd h

  in_row_reaches : (s : Subst) (y : ℕ) (r : Row) → InRow y r → RowLeadsTo s r (Var y)
  in_row_reaches s y ε h = absurd h
  in_row_reaches s y (cell k l t r) (inl h) = first (in_reaches s y t h)
  in_row_reaches s y (cell k l t r) (inr h) = later (in_row_reaches s y r h)

clean_zonk_in : (k : ℕ) (s : Subst) → Wf s → (t : Ty) → Side (length s) t → Admitted s t → Clean (zonk_in k s t)
unfolding Admitted
clean_zonk_in zero s w t i g = rw (zonk_none s t) (clean_side (length s) s t i g)
clean_zonk_in (suc k) s w t i g =
    rw (zonk_app k s t)
    (clean_replaced (λ y. zonk_in (suc k) s (Var y)) t (λ y h. zonk_var k s y Clean (λ e. tt)
    (λ u e. clean_zonk_in k s w u (w.sides y u e) (λ v j. g v (reaches_trans s (in_reaches s y t h) (through e j))))) (clean_side (length s) s t i g))

pub start_clean : (s : Subst) (a b : Ty) → Wf s → Side (length s) a → Side (length s) b → Admitted s a → Admitted s b → CleanPairs (start s a b).pairs
unfolding start zonk
start_clean s a b w i j f g = (clean_zonk_in (length s) s w a i f, clean_zonk_in (length s) s w b j g, tt)
