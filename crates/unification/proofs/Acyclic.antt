-- No unknown leads back to itself, as an invariant: what is reached behind a binding is accessible. Binding x to a type that
-- does not reach x keeps it, since what does not reach x is bound as before, and all that is new lies behind the type.
use mathlib.Core.Logic.{◌≢◌, ⊎_elim, by_cases}
use mathlib.Core.Path.{◌≡◌, sym, ◌∙◌}
use mathlib.Core.WellFounded.Subrelation
use mathlib.Core.WellFounded.{Acc}
use Prim.Native.Nat.{ℕ, ◌<◌}
use native.Mathlib.Decide.{ℕ_discrete}
use lib.ListN.{length, set}
use Rattle.unification.specs.Ty.{Ty, Var, Row}
use Rattle.unification.specs.Bindings.{Subst, bound}
use Rattle.unification.specs.Acyclic.{Behind, Acyclic}
use Rattle.unification.specs.Calls.{LeadsTo, itself, inside, through, RowLeadsTo, first, later, LeadsBack, NoLoop}
use Rattle.unification.proofs.Reach.{bound_same, bound_other, reaches_trans, reaches_after}
use Rattle.std.specs.Prelude.{Some}

never_behind : (s : Subst) (x : ℕ) → Acc (Behind s) x → ¬ Behind s x x
never_behind s x (Acc.intro x' h) b = never_behind s x' (h x' b) b

pub no_loop : (s : Subst) → Acyclic s → NoLoop s
unfolding Acyclic Behind NoLoop LeadsBack
no_loop s A x b = never_behind s x (A x) b

-- Every binding of the one is a binding of the other.
abbrev pub Among : Subst → Subst → Type 0
Among s' s = (x : ℕ) (t : Ty) → bound s' x ≡ Some t → bound s x ≡ Some t

mutual
  pub reaches_among : {s' s : Subst} → Among s' s → {t u : Ty} → LeadsTo s' t u → LeadsTo s t u
  reaches_among a itself = itself
  reaches_among a (inside h) = inside (reaches_row_among a h)
  reaches_among a (through e h) = through (a _ _ e) (reaches_among a h)

  reaches_row_among : {s' s : Subst} → Among s' s → {r : Row} {u : Ty} → RowLeadsTo s' r u → RowLeadsTo s r u
  reaches_row_among a (first h) = first (reaches_among a h)
  reaches_row_among a (later h) = later (reaches_row_among a h)

pub acyclic_among : (s' s : Subst) → Among s' s → Acyclic s → Acyclic s'
unfolding Acyclic Behind
acyclic_among s' s a A x = Subrelation.accessible (λ y z b. (b.0, a z b.0 b.1, reaches_among a b.2)) (A x)

module _ (s : Subst) (x : ℕ) (t : Ty) (lt : x < length s) (away : ¬ LeadsTo s t (Var x)) where
  -- What does not reach x stays accessible.
  apart : (z : ℕ) → Acc (Behind s) z → ¬ LeadsTo s (Var z) (Var x) → Acc (Behind (set s x (Some t))) z
  unfolding Behind
  apart z (Acc.intro z' h) off = Acc.intro z' (λ y b.
      let n : z' ≢ x = λ p. off (rw p itself) in
      let e = sym (bound_other s x z' (Some t) n) ∙ b.1 in
      ⊎_elim
      (λ i. apart y (h y (b.0, e, i)) (λ j. off (through e (reaches_trans s i j))))
      (λ i. absurd (off (through e i.0)))
      (reaches_after s x t lt b.0 (Var y) b.2))

  behind_t : Acyclic s → (y : ℕ) → LeadsTo s t (Var y) → Acc (Behind (set s x (Some t))) y
  unfolding Acyclic
  behind_t A y i = apart y (A y) (λ j. away (reaches_trans s i j))

  all : Acyclic s → (z : ℕ) → Acc (Behind s) z → Acc (Behind (set s x (Some t))) z
  unfolding Behind
  all A z (Acc.intro z' h) = Acc.intro z' (λ y b. by_cases (ℕ_discrete z' x)
      (λ p. let q : b.0 ≡ t = cc (bound_same s x (Some t) lt, b.1) in
      ⊎_elim (λ i. behind_t A y (rw q at i)) (λ i. behind_t A y i.1) (reaches_after s x t lt b.0 (Var y) b.2))
      (λ n. let e = sym (bound_other s x z' (Some t) n) ∙ b.1 in
      ⊎_elim (λ i. all A y (h y (b.0, e, i))) (λ i. behind_t A y i.1) (reaches_after s x t lt b.0 (Var y) b.2)))

  pub acyclic_bind : Acyclic s → Acyclic (set s x (Some t))
  unfolding Acyclic
  acyclic_bind A z = all A z (A z)
