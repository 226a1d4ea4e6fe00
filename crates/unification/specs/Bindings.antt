-- The substitution of ty.rs: `subst`, `undo`, `repr`, `zonk`, `occurs`, `set_var`, `fresh_var_id`, `annotate`,
-- `snapshot`, `rollback`, with the visits that document 01 counts.
use Rattle.std.specs.Prelude.{Bool, true, false, List, [], ◌∷◌, ◌++◌, ◌≡◌, ℕ, zero, suc, ◌-◌, eqb, length, get_or, set, None, Option, Some}
use Rattle.unification.specs.Ty.{Ty, leaf, node, Var, Error, Row, ε, cell, app}

-- What each unknown is bound to.
abbrev pub Subst : Type 0
Subst = List (Option Ty)

-- `var_ty`
unfoldable pub bound : Subst → ℕ → Option Ty
bound s x = get_or s x None

-- `repr`: along the chain of bound unknowns, at most one step more than there are unknowns.
unfoldable pub follow : ℕ → Subst → Ty → Ty
unfolding bound
follow zero s t = t
follow (suc k) s (leaf p) = leaf p
follow (suc k) s (node c r) = node c r
follow (suc k) s (Var x) = elim (bound s x) [ None ↦ Var x | Some t ↦ follow k s t ]
follow (suc k) s Error = Error

unfoldable pub repr : Subst → Ty → Ty
unfolding follow
repr s t = follow (suc (length s)) s t

-- What `repr` ends at: a free unknown, or no unknown.
abbrev pub Resolved : Subst → Ty → Type 0
Resolved s (leaf p) = Unit {0}
Resolved s (node k r) = Unit {0}
Resolved s (Var x) = bound s x ≡ None
Resolved s Error = Unit {0}

-- `zonk`: every bound unknown replaced, at every depth. Bindings lead from unknown to unknown at most as often as
-- there are unknowns, since none leads back to itself.
unfoldable pub zonk_in : ℕ → Subst → Ty → Ty
unfolding bound app
zonk_in zero s t = t
zonk_in (suc k) s t = app (λ x. elim (bound s x) [ None ↦ Var x | Some u ↦ zonk_in k s u ]) t

unfoldable pub zonk : Subst → Ty → Ty
unfolding zonk_in
zonk s t = zonk_in (length s) s t

-- How a question that costs visits ends, with the visits left. It is asked no further when none is left.
pub data Answer : Type 0 where
  yes_left no_left : ℕ → Answer
  spent : Answer

-- `any` of an iterator: to the first yes.
unfoldable pub any_row : (ℕ → Ty → Answer) → ℕ → Row → Answer
any_row ask v ε = no_left v
any_row ask v (cell k l t r) = elim (ask v t) [ yes_left w ↦ yes_left w | no_left w ↦ any_row ask w r | spent ↦ spent ]

unfoldable pub occurs_in : (ℕ → Ty → Answer) → ℕ → ℕ → Ty → Answer
unfolding any_row
occurs_in ask x v (leaf p) = no_left v
occurs_in ask x v (node k r) = any_row ask v r
occurs_in ask x v (Var y) = elim (eqb x y) [ true ↦ yes_left v | false ↦ no_left v ]
occurs_in ask x v Error = no_left v

-- `occurs`. The first number bounds how deep calls go; each call costs a visit, so any that is not below the visits
-- left serves.
unfoldable pub occurs : ℕ → Subst → ℕ → ℕ → Ty → Answer
unfolding occurs_in repr
occurs zero s x v t = spent
occurs (suc d) s x zero t = spent
occurs (suc d) s x (suc v) t = occurs_in (λ w u. occurs d s x w u) x v (repr s t)

-- One reversible change (`Undo`), with what stood there before it.
pub data Undo : Type 0 where
  Binding Annotation : ℕ → Option Ty → Undo

-- What demand 3 speaks of, newest first. Nothing in ty.rs reads it, and no answer depends on it.
pub data History : Type 0 where
  start : History
  -- an entry to `unify` has ended: the bindings before it, its sides, whether it succeeded, the bindings after it
  ended : Subst → Ty → Ty → Bool → Subst → History → History
  -- a rollback: the history at its snapshot, the bindings before it, the bindings after it
  rolled : History → Subst → Subst → History → History

-- The part of `Checker` that bindings and annotations are in, with the visits left.
pub record State : Type 0 where
  pub subst : Subst
  pub tys : List (Option Ty)
  -- newest first
  pub undo : List Undo
  pub left : ℕ
  pub history : History

unfoldable pub with_left : State → ℕ → State
with_left st v = record { subst = st.subst; tys = st.tys; undo = st.undo; left = v; history = st.history }

unfoldable pub with_history : State → History → State
with_history st h = record { subst = st.subst; tys = st.tys; undo = st.undo; left = st.left; history = h }

-- `fresh_var_id`: the number of a new unknown, and the state with it. Numbers are never given away again.
unfoldable pub fresh_id : State → ℕ
fresh_id st = length st.subst

unfoldable pub fresh : State → State
fresh st = record { subst = st.subst ++ None ∷ []; tys = st.tys; undo = st.undo; left = st.left; history = st.history }

-- `set_var`
unfoldable pub set_var : State → ℕ → Ty → State
unfolding bound
set_var st x t = record {
  subst = set st.subst x (Some t);
  tys = st.tys;
  undo = Binding x (bound st.subst x) ∷ st.undo;
  left = st.left;
  history = st.history;
}

-- `annotate`
unfoldable pub annotate : State → ℕ → Ty → State
annotate st n t = record {
  subst = st.subst;
  tys = set st.tys n (Some t);
  undo = Annotation n (get_or st.tys n None) ∷ st.undo;
  left = st.left;
  history = st.history;
}

-- Where `rollback` goes back to. The history is noted for demand 3.
pub record Snapshot : Type 0 where
  pub undo : ℕ
  pub past : History

unfoldable pub snapshot : State → Snapshot
snapshot st = record { undo = length st.undo; past = st.history }

unfoldable pub revert : Undo → State → State
revert (Binding x prev) st = record { subst = set st.subst x prev; tys = st.tys; undo = st.undo; left = st.left; history = st.history }
revert (Annotation n prev) st = record { subst = st.subst; tys = set st.tys n prev; undo = st.undo; left = st.left; history = st.history }

-- Take the k newest changes back.
unfoldable pub rewind : ℕ → List Undo → State → State
unfolding revert
rewind zero us st = record { subst = st.subst; tys = st.tys; undo = us; left = st.left; history = st.history }
rewind (suc k) [] st = record { subst = st.subst; tys = st.tys; undo = []; left = st.left; history = st.history }
rewind (suc k) (u ∷ us) st = rewind k us (revert u st)

-- `rollback`. The values of `subst` go back, its length stays.
unfoldable pub rollback : State → Snapshot → State
unfolding rewind with_history
rollback st at =
    let back = rewind (length st.undo - at.undo) st.undo st in
    with_history back (rolled at.past st.subst back.subst st.history)
