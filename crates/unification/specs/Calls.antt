-- What demand 3 speaks of (document 01, "What demand 3 speaks of"): lists of calls, reaching, respecting, and the four
-- clauses of the claim.
use Rattle.std.specs.Prelude.{Bool, true, false, List, [], ◌∷◌, ◌++◌, ◌↔◌, ◌≢◌, ◌≡◌, ℕ, ◌-◌, ◌<◌, ◌≤◌, length, replicate, None, Option, Some}
use Rattle.unification.specs.Ty.{Kind, Record, Union, Ty, leaf, node, Var, Error, Row, ε, cell, app}
use Rattle.unification.specs.Order.{SameTy, Finite}
use Rattle.unification.specs.Bindings.{Subst, bound, History, start, ended, rolled, State, with_left, fresh, annotate, Snapshot, snapshot, rollback}
use Rattle.unification.specs.Unify.{TyError, Ok, Err, Spent, unify}

-- ---- Sides: built from Int, String, Bytes, Fact, Error, the schema's types, earlier unknowns and records of these.

-- No key of the row is k; no key stands in it twice.
abbrev pub Lacks : ℕ → Row → Type 0
Lacks k ε = Unit {0}
Lacks k (cell m l t r) = (k ≢ m) × Lacks k r

abbrev pub DistinctKeys : Row → Type 0
DistinctKeys ε = Unit {0}
DistinctKeys (cell k l t r) = Lacks k r × DistinctKeys r

-- The label that a cell has by its row's kind: in a record 0.
abbrev pub Labelled : Kind → ℕ → Type 0
Labelled Record l = l ≡ 0
Labelled Union l = Unit {0}

-- A type that the schema of a file past 1 to 10 can have.
abbrev mutual
  pub Declared : Ty → Type 0
  Declared (leaf p) = Unit {0}
  Declared (node k r) = DistinctKeys r × DeclaredRow k r
  Declared (Var x) = ⊥
  Declared Error = ⊥

  pub DeclaredRow : Kind → Row → Type 0
  DeclaredRow k ε = Unit {0}
  DeclaredRow k (cell m l t r) = Labelled k l × Declared t × DeclaredRow k r

-- A side over the first n unknowns. A union is always the schema's.
abbrev mutual
  pub Side : ℕ → Ty → Type 0
  Side n (leaf p) = Unit {0}
  Side n (node Record r) = SideRow n r
  Side n (node Union r) = Declared (node Union r)
  Side n (Var x) = x < n
  Side n Error = Unit {0}

  pub SideRow : ℕ → Row → Type 0
  SideRow n ε = Unit {0}
  SideRow n (cell k l t r) = Labelled Record l × Side n t × SideRow n r

-- ---- Reaching: a side reaches itself, what stands in it at any depth and, for each unknown it reaches, what the binding
-- of that unknown reaches. (A Fact's key is no part of it.)
mutual
  pub data LeadsTo (s : Subst) : Ty → Ty → Type 0 where
    itself : {t : Ty} → LeadsTo s t t
    inside : {k : Kind} {r : Row} {u : Ty} → RowLeadsTo s r u → LeadsTo s (node k r) u
    through : {x : ℕ} {t u : Ty} → bound s x ≡ Some t → LeadsTo s t u → LeadsTo s (Var x) u

  pub data RowLeadsTo (s : Subst) : Row → Ty → Type 0 where
    first : {k l : ℕ} {t u : Ty} {r : Row} → LeadsTo s t u → RowLeadsTo s (cell k l t r) u
    later : {k l : ℕ} {t u : Ty} {r : Row} → RowLeadsTo s r u → RowLeadsTo s (cell k l t r) u

-- Neither an Error nor a record that names a field twice.
abbrev pub Allowed : Ty → Type 0
Allowed (leaf p) = Unit {0}
Allowed (node Record r) = DistinctKeys r
Allowed (node Union r) = Unit {0}
Allowed (Var x) = Unit {0}
Allowed Error = ⊥

-- The proviso, of one side by the bindings at the start of the unification.
unfoldable pub Admitted : Subst → Ty → Type 0
Admitted s t = (u : Ty) → LeadsTo s t u → Allowed u

-- An unknown leads back to itself.
unfoldable pub LeadsBack : Subst → ℕ → Type 0
LeadsBack s x = (t : Ty) × (bound s x ≡ Some t) × LeadsTo s t (Var x)

-- ---- Assignments

-- An assignment gives each unknown a finite type.
abbrev pub Assignment : (ℕ → Ty) → Type 0
Assignment σ = (x : ℕ) → Finite (σ x)

-- A binding is respected when the unknown and what it is bound to become equal up to order.
unfoldable pub Respects : (ℕ → Ty) → Subst → Type 0
Respects σ s = (x : ℕ) (t : Ty) → bound s x ≡ Some t → SameTy (σ x) (app σ t)

-- ---- The list of calls

-- A snapshot of the list, with the bindings and the annotations of then.
pub record Taken : Type 0 where
  pub at : Snapshot
  pub subst : Subst
  pub tys : List (Option Ty)

-- Between two calls: the state, and the snapshots to which no rollback to an older one has been made since, newest first.
pub record Machine : Type 0 where
  pub state : State
  pub taken : List Taken

unfoldable pub begin : ℕ → List (Option Ty) → Machine
begin v tys = record { state = record { subst = []; tys = tys; undo = []; left = v; history = start }; taken = [] }

unfoldable pub take_snapshot : State → Taken
take_snapshot st = record { at = snapshot st; subst = st.subst; tys = st.tys }

-- One call. Annotations share the undo log, so they are among the calls; a record is a value here and needs none.
pub data Call : Machine → Machine → Type 0 where
  unknown : {m : Machine} → Call m (record { state = fresh m.state; taken = m.taken })
  unification : {m : Machine} (a b : Ty) {st : State} → Side (length m.state.subst) a → Side (length m.state.subst) b
      → unify m.state a b ≡ Ok st → Call m (record { state = st; taken = m.taken })
  failure : {m : Machine} (a b : Ty) (e : TyError) {st : State} → Side (length m.state.subst) a → Side (length m.state.subst) b
      → unify m.state a b ≡ Err e st → Call m (record { state = st; taken = m.taken })
  snapping : {m : Machine} → Call m (record { state = m.state; taken = take_snapshot m.state ∷ m.taken })
  rolling_back : {m : Machine} (newer older : List Taken) (to : Taken) → m.taken ≡ newer ++ to ∷ older
      → Call m (record { state = rollback m.state to.at; taken = to ∷ older })
  spending : {m : Machine} (v : ℕ) → v ≤ m.state.left → Call m (record { state = with_left m.state v; taken = m.taken })
  annotation : {m : Machine} (n : ℕ) (t : Ty) → Call m (record { state = annotate m.state n t; taken = m.taken })

-- The lists of calls, from no unknown on, with where each leads.
pub data Calls (v : ℕ) (tys : List (Option Ty)) : Machine → Type 0 where
  none_yet : Calls v tys (begin v tys)
  then_call : {m m' : Machine} → Calls v tys m → Call m m' → Calls v tys m'

-- ---- The claim

-- A unification that succeeded and is not undone: the bindings at its start and its sides.
pub record UnifyEntry : Type 0 where
  pub before : Subst
  pub got : Ty
  pub expected : Ty

-- A rollback undoes the unifications begun after its snapshot. (No snapshot is taken inside a unification.)
unfoldable pub live : History → List UnifyEntry
live start = []
live (ended s a b true s' h) = record { before = s; got = a; expected = b } ∷ live h
live (ended s a b false s' h) = live h
live (rolled past s s' h) = live past

abbrev pub AllAdmitted : List UnifyEntry → Type 0
AllAdmitted [] = Unit {0}
AllAdmitted (e ∷ es) = Admitted e.before e.got × Admitted e.before e.expected × AllAdmitted es

-- σ makes the sides of each equal up to order.
abbrev pub MakesEqual : (ℕ → Ty) → List UnifyEntry → Type 0
MakesEqual σ [] = Unit {0}
MakesEqual σ (e ∷ es) = SameTy (app σ e.got) (app σ e.expected) × MakesEqual σ es

-- (a) One unification: the assignments that respect the bindings after it, by those that respect the bindings before it.
unfoldable pub EntryClaim : ((ℕ → Ty) → Type 0) → Subst → Ty → Ty → Bool → Subst → Type 0
EntryClaim P s a b true s' = Admitted s a → Admitted s b → (σ : ℕ → Ty) → P σ → Respects σ s' ↔ (Respects σ s × SameTy (app σ a) (app σ b))
EntryClaim P s a b false s' = Admitted s a → Admitted s b → (σ : ℕ → Ty) → P σ → Respects σ s → ¬ SameTy (app σ a) (app σ b)

-- (b) The bindings of a moment, by all that succeeded and is not undone.
unfoldable pub BindingsClaim : ((ℕ → Ty) → Type 0) → Subst → History → Type 0
BindingsClaim P s h = AllAdmitted (live h) → (σ : ℕ → Ty) → P σ → Respects σ s ↔ MakesEqual σ (live h)

-- (c) No unknown leads back to itself.
unfoldable pub NoLoop : Subst → Type 0
NoLoop s = (x : ℕ) → ¬ LeadsBack s x

-- (d) A rollback from the bindings s leaves s': each unknown of its snapshot has its binding of then, the later ones are there and free.
unfoldable pub BackTo : Subst → Subst → Subst → Type 0
BackTo then s s' = s' ≡ then ++ replicate (length s - length then) None

-- The bindings that a moment left.
unfoldable pub bindings_at : History → Subst
bindings_at start = []
bindings_at (ended s a b ok s' h) = s'
bindings_at (rolled past s s' h) = s'

-- Nobody else writes bindings: they are those of the last moment, and the unknowns made since are free.
unfoldable pub Noted : Subst → History → Type 0
unfolding bindings_at
Noted s h = s ≡ bindings_at h ++ replicate (length s - length (bindings_at h)) None

-- At every moment of a history, also inside an outer unification: (a) of the unification that ended there, (d) of the rollback, (b) and (c).
abbrev pub AtEveryMoment : ((ℕ → Ty) → Type 0) → History → Type 0
AtEveryMoment P start = Unit {0}
AtEveryMoment P (ended s a b ok s' h) = EntryClaim P s a b ok s' × BindingsClaim P s' (ended s a b ok s' h) × NoLoop s' × AtEveryMoment P h
AtEveryMoment P (rolled past s s' h) = BackTo (bindings_at past) s s' × Noted s h × BindingsClaim P s' (rolled past s s' h) × NoLoop s' × AtEveryMoment P h

-- The clauses of a state, over the assignments that P picks: all four at every moment of its history, (b) and (c) of it.
pub record Claim (P : (ℕ → Ty) → Type 0) (st : State) : Type 0 where
  pub moments : AtEveryMoment P st.history
  pub noted : Noted st.subst st.history
  pub bindings : BindingsClaim P st.subst st.history
  pub no_loop : NoLoop st.subst

-- (d) of the rollbacks that can come next.
unfoldable pub GivesBack : State → Taken → Type 0
unfolding BackTo
GivesBack st to = BackTo to.subst st.subst (rollback st to.at).subst

abbrev pub AllGiveBack : State → List Taken → Type 0
AllGiveBack st [] = Unit {0}
AllGiveBack st (to ∷ ts) = GivesBack st to × AllGiveBack st ts

-- Demand 3 for the list of calls that led to m.
pub record Demand3 (m : Machine) : Type 0 where
  pub between_calls : Claim Assignment m.state
  pub at_the_limit : (a b : Ty) (st : State) → Side (length m.state.subst) a → Side (length m.state.subst) b
      → unify m.state a b ≡ Spent st → Claim Assignment st
  pub gives_back : AllGiveBack m.state m.taken
