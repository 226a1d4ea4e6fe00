-- Small examples of the notions of demand 3, computed and proved, that a weaker or a stronger notion would fail: what the proviso
-- leaves out, how often, what is not undone, what a rollback gives back, what Robinson's notions say of a list of calls.
use mathlib.Core.List.{[], ◌∷◌}
use mathlib.Core.Path.{◌≡◌, refl}
use Prim.Native.Nat.{ℕ}
use native.Mathlib.Omega.{arith}
use Rattle.unification.specs.Ty.{Int, String, Fact, Record, Ty, leaf, node, Var, Error, Row, ε, cell}
use Rattle.unification.specs.Order.{SameTy, SameRow, Inserted, here, there}
use Rattle.unification.specs.Robinson.{Substitution, IsUnifier, MostGeneral}
use Rattle.unification.specs.Bindings.{Subst, bound, start, State, fresh, rollback, snapshot}
use Rattle.unification.specs.Unify.{end_of, unify}
use Rattle.unification.specs.Calls.{LeadsTo, itself, through, Allowed, Admitted, Machine, begin, take_snapshot, Calls, none_yet, then_call, unknown}
use Rattle.unification.specs.Calls.{unification, failure, snapping, rolling_back, live, BackTo, bindings_at}
use Rattle.unification.specs.Tie.{solution, Together}
use Rattle.unification.proofs.Tests.{clash}
use Rattle.unification.proofs.Reach.{admitted_leaf, admitted_free}
use Rattle.unification.proofs.Demand3.{demand_3}
use Rattle.unification.proofs.Robinson.{robinson}
use Rattle.std.specs.Prelude.{None, Some}

abbrev int : Ty
int = leaf Int

abbrev string : Ty
string = leaf String

abbrev two : ℕ → Ty → ℕ → Ty → Ty
two k t k' t' = node Record (cell k 0 t (cell k' 0 t' ε))

abbrev three : Ty → Ty → Ty → Ty
three t u v = node Record (cell 1 0 t (cell 1 0 u (cell 1 0 v ε)))

-- ---- The proviso

-- A record that names a field twice is left out, and so is an unknown behind whose binding an Error stands. A Fact never is.
twice_left_out : (s : Subst) → ¬ Admitted s (two 1 int 1 int)
unfolding Admitted
twice_left_out s a = (a _ itself).0.0 refl

error_left_out : ¬ Admitted (Some Error ∷ []) (Var 0)
unfolding Admitted bound
error_left_out a = a Error (through refl itself)

fact_admitted : (s : Subst) (p : ℕ) → Admitted s (leaf (Fact p))
fact_admitted s p = admitted_leaf s (Fact p)

bound_admitted : (s : Subst) → Admitted (Some int ∷ s) (Var 0)
unfolding Admitted bound
bound_admitted s u itself = tt
bound_admitted s u (through {t = t} e h) = let q : int ≡ t = cc in go (rw (← q) at h)
  where
    go : {u : Ty} → LeadsTo (Some int ∷ s) int u → Allowed u
    go itself = tt

-- ---- Equal up to order: repeated fields in any order, as often.
swapped : SameTy (two 1 int 1 string) (two 1 string 1 int)
swapped = (refl, (int, cell 1 0 string ε, refl, (string, ε, refl, tt, here), there here))

no_int_in_one : (t : Ty) (r : Row) → SameTy int t → ¬ Inserted 1 0 t r (cell 1 0 string ε)
no_int_in_one t r e here = clash (cc)
no_int_in_one t _ e (there {r = r} i) = elim i [ ]

no_int : (t : Ty) (r : Row) → SameTy int t → ¬ Inserted 1 0 t r (cell 1 0 string (cell 1 0 string ε))
no_int t r e here = clash (cc)
no_int t r e (there i) = no_int_in_one t _ e i

one_int : (t : Ty) (r : Row) → SameTy int t → Inserted 1 0 t r (cell 1 0 int (cell 1 0 string (cell 1 0 string ε)))
    → ¬ SameRow (cell 1 0 int (cell 1 0 string ε)) r
one_int t r e here q = no_int q.0 q.1 q.2 q.4
one_int t r e (there i) q = no_int t _ e i

as_often : ¬ SameTy (three int int string) (three int string string)
as_often h = let q = h.1 in one_int q.0 q.1 q.2 q.4 q.3

-- ---- What is not undone

-- Of a unification that fails, what succeeded inside it; of one that passes the limit, what ended inside it.
abbrev from : Subst → ℕ → State
from s v = record { subst = s; tys = []; undo = []; left = v; history = start }

inner_stays : live (end_of (unify (from (None ∷ []) 9) (two 1 (Var 0) 2 int) (two 1 int 2 string))).history
    ≡ record { before = None ∷ []; got = Var 0; expected = int } ∷ []
unfolding live unify
inner_stays = refl

limit_stays : live (end_of (unify (from (None ∷ None ∷ []) 3) (two 1 (Var 0) 2 (Var 1)) (two 1 int 2 int))).history
    ≡ record { before = None ∷ None ∷ []; got = Var 0; expected = int } ∷ []
unfolding live unify
limit_stays = refl

-- ---- A list of calls: an unknown and Int; a snapshot; a second unknown and String, a third, the first and String, which fails; a rollback.
unfoldable one_made : State
unfolding begin fresh
one_made = fresh (begin 9 []).state

unfoldable one_bound : State
unfolding one_made unify
one_bound = end_of (unify one_made (Var 0) int)

unfoldable two_made : State
unfolding one_bound fresh
two_made = fresh one_bound

unfoldable two_bound : State
unfolding two_made unify
two_bound = end_of (unify two_made (Var 1) string)

unfoldable three_made : State
unfolding two_bound fresh
three_made = fresh two_bound

unfoldable one_refused : State
unfolding three_made unify
one_refused = end_of (unify three_made (Var 0) string)

abbrev before : State → Machine
before st = record { state = st; taken = [] }

abbrev since : State → Machine
since st = record { state = st; taken = take_snapshot one_bound ∷ [] }

calls_bound : Calls 9 [] (before one_bound)
unfolding one_bound one_made unify fresh begin
calls_bound = then_call (then_call none_yet unknown) (unification {m = before one_made} (Var 0) int (omega arith) tt refl)

calls_two : Calls 9 [] (since two_bound)
unfolding two_bound two_made one_bound one_made unify fresh begin
calls_two = then_call (then_call (then_call calls_bound snapping) unknown) (unification {m = since two_made} (Var 1) string (omega arith) tt refl)

calls_refused : Calls 9 [] (since one_refused)
unfolding one_refused three_made two_bound two_made one_bound one_made unify fresh begin
calls_refused = then_call (then_call calls_two unknown) (failure {m = since three_made} (Var 0) string _ (omega arith) tt refl)

calls_rolled : Calls 9 [] (since (rollback one_refused (snapshot one_bound)))
unfolding take_snapshot
calls_rolled = then_call calls_refused (rolling_back {m = since one_refused} [] [] (take_snapshot one_bound) refl)

-- What the first unification bound is a most general unifier; there is none for the third.
finds : MostGeneral (solution (Some int ∷ [])) (Together (None ∷ []) (Var 0) int)
unfolding one_bound one_made unify fresh begin
finds = (robinson 9 [] _ calls_bound).0 (admitted_free (None ∷ []) 0 refl) (admitted_leaf (None ∷ []) Int)

finds_none : (θ : Substitution) → ¬ IsUnifier θ (Together (Some int ∷ Some string ∷ None ∷ []) (Var 0) string)
unfolding one_refused three_made two_bound two_made one_bound one_made unify fresh begin bound
finds_none = (robinson 9 [] _ calls_refused).0 (bound_admitted (Some string ∷ None ∷ [])) (admitted_leaf (Some int ∷ Some string ∷ None ∷ []) String)

-- The rollback, by the claim: the first unknown is bound as at the snapshot, the other two are there and free.
gave_back : BackTo (Some int ∷ []) (Some int ∷ Some string ∷ None ∷ []) (Some int ∷ None ∷ None ∷ [])
unfolding one_refused three_made two_bound two_made one_bound one_made unify fresh begin rollback snapshot bindings_at
gave_back = (demand_3 9 [] _ calls_rolled).between_calls.moments.0
