-- What is claimed of a run: which substitutions make its pairs equal and respect its bindings.
use Rattle.std.specs.Prelude.{List, [], ◌∷◌, ◌↔◌, ◌⊎◌, ◌≡◌, ℕ, ◌<◌}
use Rattle.unification.specs.Ty.{Kind, Ty, leaf, node, Var, Error, Row, ε, cell, app}
use Rattle.unification.specs.Order.{SameTy}
use Rattle.unification.specs.Bindings.{State}
use Rattle.unification.specs.Unify.{Unified, Ok, Err, Spent, unify}
use Rattle.unification.specs.Calls.{DistinctKeys, Labelled, Admitted, Respects}
use Rattle.unification.specs.Robinson.{Equation, IsUnifier}
use Rattle.plain_theory.specs.Plain.{Binding, Stage, In, needs, Along, start}
use Rattle.plain_theory.specs.Falls.{InPairs}
use Rattle.plain_theory.specs.Answer.{Success, Failure, ShutOut, TooFew, answer}

abbrev pub Respected : (ℕ → Ty) → List Binding → Type 0
Respected σ [] = Unit {0}
Respected σ (b ∷ bs) = SameTy (σ b.unknown) (app σ b.to) × Respected σ bs

abbrev pub Satisfies : (ℕ → Ty) → Stage → Type 0
Satisfies σ g = IsUnifier σ g.pairs × Respected σ g.bindings

-- No row in it has a key twice, and a record's cells have no label.
abbrev mutual
  pub Clean : Ty → Type 0
  Clean (leaf p) = Unit {0}
  Clean (node k r) = DistinctKeys r × CleanRow k r
  Clean (Var x) = Unit {0}
  Clean Error = Unit {0}

  pub CleanRow : Kind → Row → Type 0
  CleanRow kind ε = Unit {0}
  CleanRow kind (cell k l t r) = Labelled kind l × Clean t × CleanRow kind r

abbrev pub CleanPairs : List Equation → Type 0
CleanPairs [] = Unit {0}
CleanPairs (p ∷ ps) = Clean p.left × Clean p.right × CleanPairs ps

-- A unification ended, and it succeeded or failed.
abbrev pub Ends : Unified → Type 0
Ends (Ok st) = Unit {0}
Ends (Err e st) = Unit {0}
Ends (Spent st) = ⊥

abbrev pub Succeeds : Unified → Type 0
Succeeds (Ok st) = Unit {0}
Succeeds (Err e st) = ⊥
Succeeds (Spent st) = ⊥

abbrev pub Fails : Unified → Type 0
Fails (Ok st) = ⊥
Fails (Err e st) = Unit {0}
Fails (Spent st) = ⊥

-- ---- Every bound unknown is replaced everywhere

abbrev pub BoundIn : ℕ → List Binding → Type 0
BoundIn x [] = ⊥
BoundIn x (b ∷ bs) = (x ≡ b.unknown) ⊎ BoundIn x bs

abbrev pub InBindings : ℕ → List Binding → Type 0
InBindings x [] = ⊥
InBindings x (b ∷ bs) = In x b.to ⊎ InBindings x bs

-- No unknown is bound twice.
abbrev pub Once : List Binding → Type 0
Once [] = Unit {0}
Once (b ∷ bs) = (¬ BoundIn b.unknown bs) × Once bs

-- No bound unknown stands in a pair or in what another is bound to.
pub record BoundApart (g : Stage) : Type 0 where
  pub pairs : (x : ℕ) → BoundIn x g.bindings → ¬ InPairs x g.pairs
  pub bindings : (x : ℕ) → BoundIn x g.bindings → ¬ InBindings x g.bindings
  pub once : Once g.bindings

-- ---- Beside `unify`

-- What the card claims of an entry that has ended, with permitted sides, after whatever calls.
pub record AsUnify (lent : ℕ) (st : State) (a b : Ty) : Type 0 where
  pub shuts_out : (answer lent st.subst a b ≡ ShutOut) ↔ (¬ (Admitted st.subst a × Admitted st.subst b))
  pub too_few : Admitted st.subst a → Admitted st.subst b → (answer lent st.subst a b ≡ TooFew)
      ↔ ((h : Stage) × Along (start st.subst a b) h × (lent < needs h))
  pub fails : Admitted st.subst a → Admitted st.subst b → ¬ (answer lent st.subst a b ≡ TooFew) → (answer lent st.subst a b ≡ Failure) ↔ Fails (unify st a b)
  pub bindings : Admitted st.subst a → Admitted st.subst b → (after : State) (bs : List Binding) → unify st a b ≡ Ok after
      → answer lent st.subst a b ≡ Success bs
      → (σ : ℕ → Ty) → Respects σ after.subst ↔ Respected σ bs
