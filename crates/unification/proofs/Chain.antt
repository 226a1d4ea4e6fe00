-- A chain of bound unknowns is at most as long as there are unknowns: behind the binding of x nothing reaches x, so the
-- rest of the chain does without that binding, and there is one fewer. So `repr` ends at no bound unknown.
use mathlib.Core.Logic.{◌≢◌, ◌⊎◌, inl, inr, by_cases}
use mathlib.Core.List.{[], ◌∷◌}
use mathlib.Core.Path.{◌≡◌, refl, sym, ◌∙◌, ap}
use Prim.Native.Nat.{ℕ, zero, suc, ◌≤◌}
use native.Mathlib.Decide.{ℕ_discrete}
use native.Mathlib.Omega.{arith}
use lib.ListN.{length, set}
use Rattle.unification.specs.Ty.{Leaf, Kind, Ty, leaf, node, Var, Error, Row, ε, cell}
use Rattle.unification.specs.Bindings.{Subst, bound, follow, repr, Resolved}
use Rattle.unification.specs.Calls.{LeadsTo, itself, inside, through, RowLeadsTo, first, later, LeadsBack, NoLoop}
use Rattle.unification.proofs.Tests.{clash}
use Rattle.unification.proofs.Reach.{bound_other, follow_reaches}
use Rattle.unification.specs.Acyclic.{Acyclic}
use Rattle.unification.proofs.Acyclic.{no_loop, Among, acyclic_among}
use Rattle.std.specs.Prelude.{None, Option, Some}

pub not_behind : (s : Subst) → Acyclic s → (x : ℕ) (t : Ty) → bound s x ≡ Some t → ¬ LeadsTo s t (Var x)
unfolding NoLoop LeadsBack
not_behind s A x t e h = no_loop s A x (t, e, h)

-- ---- What reaches an unknown
pub leaf_reaches : (s : Subst) (p : Leaf) (z : ℕ) → ¬ LeadsTo s (leaf p) (Var z)
leaf_reaches s p z = elim [ ]

pub error_reaches : (s : Subst) (z : ℕ) → ¬ LeadsTo s Error (Var z)
error_reaches s z = elim [ ]

pub node_reaches : (s : Subst) (k : Kind) (r : Row) (z : ℕ) → LeadsTo s (node k r) (Var z) → RowLeadsTo s r (Var z)
node_reaches s k r z (inside h) = h

pub nil_reaches : (s : Subst) (z : ℕ) → ¬ RowLeadsTo s ε (Var z)
nil_reaches s z = elim [ ]

pub cell_reaches : (s : Subst) (k l : ℕ) (t : Ty) (r : Row) (z : ℕ) → RowLeadsTo s (cell k l t r) (Var z) → LeadsTo s t (Var z) ⊎ RowLeadsTo s r (Var z)
cell_reaches s k l t r z (first h) = inl h
cell_reaches s k l t r z (later h) = inr h

-- ---- One binding fewer
pub count : Subst → ℕ
count [] = zero
count (None ∷ s) = count s
count (Some t ∷ s) = suc (count s)

pub count_le : (s : Subst) → count s ≤ length s
unfolding count
count_le [] = omega arith
count_le (None ∷ s) = omega (arith, count_le s)
count_le (Some t ∷ s) = omega (arith, count_le s)

unfoldable pub unset : Subst → ℕ → Subst
unset s x = set s x None

pub count_unset : (s : Subst) (x : ℕ) (t : Ty) → bound s x ≡ Some t → count s ≡ suc (count (unset s x))
unfolding count unset bound
count_unset [] x t e = clash (cc)
count_unset (None ∷ s) zero t e = clash (cc)
count_unset (Some u ∷ s) zero t e = refl
count_unset (None ∷ s) (suc x) t e = count_unset s x t e
count_unset (Some u ∷ s) (suc x) t e = ap suc (count_unset s x t e)

pub unset_other : (s : Subst) (x y : ℕ) → y ≢ x → bound (unset s x) y ≡ bound s y
unfolding unset
unset_other s x y n = bound_other s x y None n

unset_same : (s : Subst) (x : ℕ) → bound (unset s x) x ≡ None
unfolding bound unset
unset_same [] x = refl
unset_same (o ∷ s) zero = refl
unset_same (o ∷ s) (suc x) = unset_same s x

unset_among : (s : Subst) (x : ℕ) → Among (unset s x) s
unset_among s x y t e = by_cases (ℕ_discrete y x)
    (λ p. clash (cc (unset_same s x)))
    (λ n. sym (unset_other s x y n) ∙ e)

pub unset_acyclic : (s : Subst) (x : ℕ) → Acyclic s → Acyclic (unset s x)
unset_acyclic s x A = acyclic_among (unset s x) s (unset_among s x) A

-- What does not reach x reaches what it reaches without the binding of x.
mutual
  pub unset_reaches : (s : Subst) (x : ℕ) {t u : Ty} → ¬ LeadsTo s t (Var x) → LeadsTo s t u → LeadsTo (unset s x) t u
  unset_reaches s x off itself = itself
  unset_reaches s x off (inside h) = inside (unset_reaches_row s x (λ i. off (inside i)) h)
  unset_reaches s x off (through {x = y} e h) =
      through (unset_other s x y (λ p. off (rw p itself)) ∙ e) (unset_reaches s x (λ i. off (through e i)) h)

  unset_reaches_row : (s : Subst) (x : ℕ) {r : Row} {u : Ty} → ¬ RowLeadsTo s r (Var x) → RowLeadsTo s r u → RowLeadsTo (unset s x) r u
  unset_reaches_row s x off (first h) = first (unset_reaches s x (λ i. off (first i)) h)
  unset_reaches_row s x off (later h) = later (unset_reaches_row s x (λ i. off (later i)) h)

-- ---- `repr`

follow_free : (k : ℕ) (s : Subst) (x : ℕ) → bound s x ≡ None → follow k s (Var x) ≡ Var x
unfolding follow
follow_free zero s x e = refl
follow_free (suc k) s x e = rw (e, follow)

follow_bound : (k : ℕ) (s : Subst) (x : ℕ) (t : Ty) → bound s x ≡ Some t → follow (suc k) s (Var x) ≡ follow k s t
unfolding follow
follow_bound k s x t e = rw (e, follow)

pub repr_resolved_is : (s : Subst) (t : Ty) → Resolved s t → repr s t ≡ t
unfolding repr follow
repr_resolved_is s (leaf p) h = refl
repr_resolved_is s (node k r) h = refl
repr_resolved_is s (Var x) h = follow_free (suc (length s)) s x h
repr_resolved_is s Error h = refl

follow_unset : (k : ℕ) (s : Subst) (x : ℕ) (t : Ty) → ¬ LeadsTo s t (Var x) → follow k (unset s x) t ≡ follow k s t
unfolding follow
follow_unset zero s x t off = refl
follow_unset (suc k) s x (leaf p) off = refl
follow_unset (suc k) s x (node c r) off = refl
follow_unset (suc k) s x Error off = refl
follow_unset (suc k) s x (Var y) off = go (bound s y) refl (λ t. follow_unset k s x t)
  where
    same : bound (unset s x) y ≡ bound s y
    same = unset_other s x y (λ p. off (rw p itself))

    go : (o : Option Ty) → bound s y ≡ o → ((t : Ty) → ¬ LeadsTo s t (Var x) → follow k (unset s x) t ≡ follow k s t)
        → follow (suc k) (unset s x) (Var y) ≡ follow (suc k) s (Var y)
    go None e ih = rw (same, e, follow)
    go (Some t) e ih = rw (same, e, follow) (ih t (λ h. off (through e h)))

resolved_set : (s : Subst) (x : ℕ) (t : Ty) → ¬ LeadsTo s t (Var x) → Resolved (unset s x) t → Resolved s t
resolved_set s x (leaf p) off h = tt
resolved_set s x (node k r) off h = tt
resolved_set s x (Var y) off h = sym (unset_other s x y (λ p. off (rw p itself))) ∙ h
resolved_set s x Error off h = tt

-- The bound of a chain.
follow_resolved : (c : ℕ) (s : Subst) → count s ≤ c → Acyclic s → (t : Ty) → Resolved s (follow (suc c) s t)
unfolding follow
follow_resolved zero s le A (leaf p) = tt
follow_resolved zero s le A (node k r) = tt
follow_resolved zero s le A Error = tt
follow_resolved zero s le A (Var x) = go (bound s x) refl
  where
    go : (o : Option Ty) → bound s x ≡ o → Resolved s (follow 1 s (Var x))
    go None e = rw (follow_free 1 s x e) e
    go (Some t) e = absurd (omega (arith, count_unset s x t e))
follow_resolved (suc c) s le A (leaf p) = tt
follow_resolved (suc c) s le A (node k r) = tt
follow_resolved (suc c) s le A Error = tt
follow_resolved (suc c) s le A (Var x) = go (bound s x) refl (λ s' l A' t. follow_resolved c s' l A' t)
  where
    go : (o : Option Ty) → bound s x ≡ o → ((s' : Subst) → count s' ≤ c → Acyclic s' → (t : Ty) → Resolved s' (follow (suc c) s' t))
        → Resolved s (follow (suc (suc c)) s (Var x))
    go None e ih = rw (follow_free (suc (suc c)) s x e) e
    go (Some t) e ih =
        let off = not_behind s A x t e in
        let there = ih (unset s x) (omega (arith, count_unset s x t e)) (unset_acyclic s x A) t in
        rw (follow_bound (suc c) s x t e)
        (resolved_set s x (follow (suc c) s t) (λ h. off (follow_reaches (suc c) s t (Var x) h)) (rw (follow_unset (suc c) s x t off) at there))

pub repr_resolved : (s : Subst) → Acyclic s → (t : Ty) → Resolved s (repr s t)
unfolding repr
repr_resolved s A t = follow_resolved (length s) s (count_le s) A t

-- Steps past a resolved end change nothing.
pub follow_settled : (k j : ℕ) (s : Subst) (t : Ty) → k ≤ j → Resolved s (follow k s t) → follow j s t ≡ follow k s t
unfolding follow
follow_settled zero zero s t le h = refl
follow_settled zero (suc j) s (leaf p) le h = refl
follow_settled zero (suc j) s (node c r) le h = refl
follow_settled zero (suc j) s (Var x) le h = follow_free (suc j) s x h
follow_settled zero (suc j) s Error le h = refl
follow_settled (suc k) zero s t le h = absurd (omega arith)
follow_settled (suc k) (suc j) s (leaf p) le h = refl
follow_settled (suc k) (suc j) s (node c r) le h = refl
follow_settled (suc k) (suc j) s Error le h = refl
follow_settled (suc k) (suc j) s (Var x) le h = go (bound s x) refl (λ t. follow_settled k j s t (omega arith))
  where
    go : (o : Option Ty) → bound s x ≡ o → ((t : Ty) → Resolved s (follow k s t) → follow j s t ≡ follow k s t)
        → follow (suc j) s (Var x) ≡ follow (suc k) s (Var x)
    go None e ih = follow_free (suc j) s x e ∙ sym (follow_free (suc k) s x e)
    go (Some t) e ih = follow_bound j s x t e ∙ ih t (rw (follow_bound k s x t e) at h) ∙ sym (follow_bound k s x t e)
