-- Reaching through bindings: it is transitive, `repr` only goes along it, and binding an unknown adds to what is reached
-- only by way of that unknown.
use mathlib.Core.Logic.{◌≢◌, ◌⊎◌, inl, inr, ⊎_elim, ⊎_map, by_cases}
use mathlib.Core.Path.{◌≡◌, refl, sym, ◌∙◌}
use Prim.Native.Nat.{ℕ, zero, suc, ◌<◌}
use native.Mathlib.Decide.{ℕ_discrete}
use lib.ListN.{length, set}
use lib.Seq.{get_or-set_same, get_or-set_other}
use Rattle.unification.specs.Ty.{Leaf, Ty, leaf, node, Var, Error, Row}
use Rattle.unification.specs.Bindings.{Subst, bound, follow}
use Rattle.unification.specs.Calls.{LeadsTo, itself, inside, through, RowLeadsTo, first, later, Admitted}
use Rattle.unification.proofs.Tests.{clash}
use Rattle.std.specs.Prelude.{None, Option, Some}

pub bound_same : (s : Subst) (x : ℕ) (o : Option Ty) → x < length s → bound (set s x o) x ≡ o
unfolding bound
bound_same s x o h = get_or-set_same s x o None h

pub bound_other : (s : Subst) (x y : ℕ) (o : Option Ty) → y ≢ x → bound (set s x o) y ≡ bound s y
unfolding bound
bound_other s x y o h = get_or-set_other s x y o None h

mutual
  pub reaches_trans : (s : Subst) {t u w : Ty} → LeadsTo s t u → LeadsTo s u w → LeadsTo s t w
  reaches_trans s itself k = k
  reaches_trans s (inside h) k = inside (reaches_row_trans s h k)
  reaches_trans s (through e h) k = through e (reaches_trans s h k)

  reaches_row_trans : (s : Subst) {r : Row} {u w : Ty} → RowLeadsTo s r u → LeadsTo s u w → RowLeadsTo s r w
  reaches_row_trans s (first h) k = first (reaches_trans s h k)
  reaches_row_trans s (later h) k = later (reaches_row_trans s h k)

-- What an unknown reaches is itself or behind its binding.
pub reaches_var : (s : Subst) (x : ℕ) (u : Ty) → LeadsTo s (Var x) u → (Var x ≡ u) ⊎ ((t : Ty) × (bound s x ≡ Some t) × LeadsTo s t u)
reaches_var s x u itself = inl refl
reaches_var s x u (through e h) = inr (_, e, h)

-- A type without parts is admitted, and so is a free unknown: each reaches itself alone.
pub admitted_leaf : (s : Subst) (p : Leaf) → Admitted s (leaf p)
unfolding Admitted
admitted_leaf s p u itself = tt

pub admitted_free : (s : Subst) (x : ℕ) → bound s x ≡ None → Admitted s (Var x)
unfolding Admitted
admitted_free s x free u itself = tt
admitted_free s x free u (through e h) = clash (cc)

-- ---- Following
pub follow_reaches : (k : ℕ) (s : Subst) (t u : Ty) → LeadsTo s (follow k s t) u → LeadsTo s t u
unfolding follow
follow_reaches zero s t u h = h
follow_reaches (suc k) s (leaf p) u h = h
follow_reaches (suc k) s (node c r) u h = h
follow_reaches (suc k) s Error u h = h
follow_reaches (suc k) s (Var x) u h = go (bound s x) refl (λ t. follow_reaches k s t u)
  where
    go : (o : Option Ty) → bound s x ≡ o → ((t : Ty) → LeadsTo s (follow k s t) u → LeadsTo s t u) → LeadsTo s (Var x) u
    go None e ih = rw (e, follow) at h
    go (Some t) e ih = through e (ih t (rw (e, follow) at h))

-- A free unknown is reached still.
pub reaches_follow : (k : ℕ) (s : Subst) (x : ℕ) → bound s x ≡ None → (t : Ty) → LeadsTo s t (Var x) → LeadsTo s (follow k s t) (Var x)
unfolding follow
reaches_follow zero s x free t h = h
reaches_follow (suc k) s x free (leaf p) h = h
reaches_follow (suc k) s x free (node c r) h = h
reaches_follow (suc k) s x free Error h = h
reaches_follow (suc k) s x free (Var y) h = go (bound s y) refl (reaches_var s y (Var x) h) (λ t. reaches_follow k s x free t)
  where
    go : (o : Option Ty) → bound s y ≡ o → (Var y ≡ Var x) ⊎ ((t : Ty) × (bound s y ≡ Some t) × LeadsTo s t (Var x))
        → ((t : Ty) → LeadsTo s t (Var x) → LeadsTo s (follow k s t) (Var x)) → LeadsTo s (follow (suc k) s (Var y)) (Var x)
    go None e c ih = rw (e, follow) h
    go (Some t) e (inl q) ih = let p : y ≡ x = cc in clash (cc)
    go (Some t) e (inr c) ih = let q : c.0 ≡ t = cc c.1 in rw (e, follow) (ih t (rw q at c.2))

-- ---- Binding x to t
module _ (s : Subst) (x : ℕ) (t : Ty) (lt : x < length s) where
  through_bound : (y : ℕ) (w u : Ty) → bound (set s x (Some t)) y ≡ Some w → LeadsTo s w u ⊎ (LeadsTo s w (Var x) × LeadsTo s t u)
      → LeadsTo s (Var y) u ⊎ (LeadsTo s (Var y) (Var x) × LeadsTo s t u)
  through_bound y w u e (inl h) = by_cases (ℕ_discrete y x)
      (λ p. let q : w ≡ t = cc (bound_same s x (Some t) lt) in inr (rw p itself, rw q at h))
      (λ n. inl (through (sym (bound_other s x y (Some t) n) ∙ e) h))
  through_bound y w u e (inr h) = by_cases (ℕ_discrete y x)
      (λ p. inr (rw p itself, h.1))
      (λ n. inr (through (sym (bound_other s x y (Some t) n) ∙ e) h.0, h.1))

  -- What is reached afterwards was reached before, or x was and t reached it.
  mutual
    pub reaches_after : (a u : Ty) → LeadsTo (set s x (Some t)) a u → LeadsTo s a u ⊎ (LeadsTo s a (Var x) × LeadsTo s t u)
    reaches_after a u itself = inl itself
    reaches_after a u (inside h) = ⊎_map inside (λ i. (inside i.0, i.1)) (reaches_row_after _ u h)
    reaches_after a u (through {x = y} {t = w} e h) = through_bound y w u e (reaches_after w u h)

    reaches_row_after : (r : Row) (u : Ty) → RowLeadsTo (set s x (Some t)) r u → RowLeadsTo s r u ⊎ (RowLeadsTo s r (Var x) × LeadsTo s t u)
    reaches_row_after r u (first h) = ⊎_map first (λ i. (first i.0, i.1)) (reaches_after _ u h)
    reaches_row_after r u (later h) = ⊎_map later (λ i. (later i.0, i.1)) (reaches_row_after _ u h)

  -- New bindings join only what was admitted.
  pub admitted_bind : (u : Ty) → Admitted s t → Admitted s u → Admitted (set s x (Some t)) u
  unfolding Admitted
  admitted_bind u g h w i = ⊎_elim (λ j. h w j) (λ j. g w j.1) (reaches_after u w i)

pub admitted_follow : (k : ℕ) (s : Subst) (t : Ty) → Admitted s t → Admitted s (follow k s t)
unfolding Admitted
admitted_follow k s t h u i = h u (follow_reaches k s t u i)
