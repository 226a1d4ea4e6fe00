-- Sentences of document 01, modules 2 and 3, that demand 3's proviso leaves out, and the visits of small unifications: a
-- definition that differs in one of them is refused here. And a list of calls of which demand 3 says something.
use mathlib.Core.List.{[], ◌∷◌, ◌++◌}
use mathlib.Core.Bool.{true}
use mathlib.Core.Logic.{◌↔◌}
use mathlib.Core.Path.{◌≡◌, refl, sym, ◌∙◌, ap}
use Prim.Native.Nat.{ℕ, suc, ◌-◌}
use native.Mathlib.Omega.{arith}
use lib.ListN.{length, set, take}
use Rattle.unification.specs.Ty.{Int, String, Record, Union, Ty, leaf, node, Var, Error, ε, cell, app}
use Rattle.unification.specs.Bindings.{Subst, bound, zonk, start, ended, State, with_left, with_history, fresh_id, fresh, set_var, annotate, Snapshot}
use Rattle.unification.specs.Bindings.{snapshot, rollback, Resolved}
use Rattle.unification.specs.Unify.{Absent, Renamed, Payload, TyError, Mismatch, UnionMismatch, UnknownField, Infinite, Unified, Ok, Err, Spent}
use Rattle.unification.specs.Unify.{unify_heads, note, unify_in, unify}
use Rattle.unification.specs.Order.{SameTy}
use Rattle.unification.specs.Calls.{Assignment, Respects, Machine, begin, unknown, unification, Calls, none_yet}
use Rattle.unification.specs.Calls.{then_call, live, BindingsClaim}
use Rattle.unification.proofs.Reach.{admitted_leaf, admitted_free}
use Rattle.unification.proofs.Chain.{repr_resolved_is}
use Rattle.unification.proofs.Undo.{rewind_subst, unbind_length}
use Rattle.unification.proofs.Kept.{heads_in, unify_in_visit}
use Rattle.unification.proofs.Depth.{unify_depth}
use Rattle.unification.proofs.Demand3.{demand_3}
use Rattle.std.specs.Prelude.{None, Some}

-- What is seen of an end: the error, the bindings, the visits left.
pub data Seen : Type 0 where
  succeeds : Subst → ℕ → Seen
  fails : TyError → Subst → ℕ → Seen
  stops : Subst → ℕ → Seen

unfoldable pub seen : Unified → Seen
seen (Ok st) = succeeds st.subst st.left
seen (Err e st) = fails e st.subst st.left
seen (Spent st) = stops st.subst st.left

-- ---- Error

-- One entry with a visit left, on resolved sides.
pub unify_resolved : (st : State) (v : ℕ) (a b : Ty) → st.left ≡ suc v → Resolved st.subst a → Resolved st.subst b
    → unify st a b ≡ note st.subst a b (unify_heads v (λ st' a' b'. unify_in v st' a' b') (with_left st v) a b)
unfolding heads_in
unify_resolved st v a b e p q =
    sym (unify_depth (suc v) st a b (omega arith)) ∙ unify_in_visit v st v a b e
    ∙ rw (repr_resolved_is st.subst a p, repr_resolved_is st.subst b q)

-- An unbound unknown beside Error becomes Error, on either side, with no occurs check.
pub var_beside_error : (st : State) (x v : ℕ) → st.left ≡ suc v → bound st.subst x ≡ None
    → seen (unify st (Var x) Error) ≡ succeeds (set st.subst x (Some Error)) v
unfolding seen note unify_heads with_left set_var
var_beside_error st x v e free = ap seen (unify_resolved st v (Var x) Error e free tt)

pub error_beside_var : (st : State) (x v : ℕ) → st.left ≡ suc v → bound st.subst x ≡ None
    → seen (unify st Error (Var x)) ≡ succeeds (set st.subst x (Some Error)) v
unfolding seen note unify_heads with_left set_var
error_beside_var st x v e free = ap seen (unify_resolved st v Error (Var x) e tt free)

-- What is no unknown goes with Error, and nothing is bound.
abbrev pub Shape : Ty → Type 0
Shape (leaf p) = Unit {0}
Shape (node k r) = Unit {0}
Shape (Var x) = ⊥
Shape Error = Unit {0}

pub shape_beside_error : (st : State) (t : Ty) (v : ℕ) → st.left ≡ suc v → Shape t → seen (unify st t Error) ≡ succeeds st.subst v
unfolding seen note unify_heads with_left
shape_beside_error st (leaf p) v e h = ap seen (unify_resolved st v (leaf p) Error e tt tt)
shape_beside_error st (node k r) v e h = ap seen (unify_resolved st v (node k r) Error e tt tt)
shape_beside_error st (Var x) v e h = absurd h
shape_beside_error st Error v e h = ap seen (unify_resolved st v Error Error e tt tt)

pub error_beside_shape : (st : State) (t : Ty) (v : ℕ) → st.left ≡ suc v → Shape t → seen (unify st Error t) ≡ succeeds st.subst v
unfolding seen note unify_heads with_left
error_beside_shape st (leaf p) v e h = ap seen (unify_resolved st v Error (leaf p) e tt tt)
error_beside_shape st (node k r) v e h = ap seen (unify_resolved st v Error (node k r) e tt tt)
error_beside_shape st (Var x) v e h = absurd h
error_beside_shape st Error v e h = ap seen (unify_resolved st v Error Error e tt tt)

-- ---- Numbers of unknowns

-- A rollback keeps the unknowns, so no number is given again.
pub rollback_length : (st : State) (to : Snapshot) → length (rollback st to).subst ≡ length st.subst
unfolding rollback with_history
rollback_length st to =
    let k = length st.undo - to.undo in
    ap length (rewind_subst k st.undo st) ∙ unbind_length (take k st.undo) st.subst

pub rollback_next : (st : State) (to : Snapshot) → fresh_id (rollback st to) ≡ fresh_id st
unfolding fresh_id
rollback_next st to = rollback_length st to

pub fresh_next : (st : State) → fresh_id (fresh st) ≡ suc (fresh_id st)
unfolding fresh_id fresh
fresh_next st = go st.subst
  where
    go : (s : Subst) → length (s ++ None ∷ []) ≡ suc (length s)
    go [] = refl
    go (o ∷ s) = ap suc (go s)

-- ---- Computed examples

-- From these bindings, with this many visits left.
unfoldable try : Subst → ℕ → Ty → Ty → Seen
unfolding seen unify
try s v a b = seen (unify (record { subst = s; tys = []; undo = []; left = v; history = start }) a b)

abbrev int : Ty
int = leaf Int

abbrev string : Ty
string = leaf String

-- Records and unions of one and of two.
abbrev one : ℕ → Ty → Ty
one k t = node Record (cell k 0 t ε)

abbrev two : ℕ → Ty → ℕ → Ty → Ty
two k t k' t' = node Record (cell k 0 t (cell k' 0 t' ε))

abbrev alternatives : ℕ → ℕ → Ty → ℕ → ℕ → Ty → Ty
alternatives name k t name' k' t' = node Union (cell k name t (cell k' name' t' ε))

unknown_takes_error : try (None ∷ []) 9 (Var 0) Error ≡ succeeds (Some Error ∷ []) 8
unfolding try
unknown_takes_error = refl

error_given_unknown : try (None ∷ []) 9 Error (Var 0) ≡ succeeds (Some Error ∷ []) 8
unfolding try
error_given_unknown = refl

int_beside_error : try (None ∷ []) 9 int Error ≡ succeeds (None ∷ []) 8
unfolding try
int_beside_error = refl

-- Names are sought from the found side alone.
repeated_name_found : try [] 9 (two 1 int 1 int) (two 1 int 2 string) ≡ succeeds [] 6
unfolding try
repeated_name_found = refl

repeated_name_expected : try [] 9 (two 1 int 2 string) (two 1 int 1 int) ≡ fails (UnknownField 2) [] 7
unfolding try
repeated_name_expected = refl

names_in_any_order : try [] 9 (two 1 int 2 string) (two 2 string 1 int) ≡ succeeds [] 6
unfolding try
names_in_any_order = refl

counts_first : try [] 9 (one 1 int) (two 1 int 2 string) ≡ fails (Mismatch (two 1 int 2 string) (one 1 int)) [] 8
unfolding try
counts_first = refl

-- A failure keeps the bindings made so far.
failure_keeps_bindings : try (None ∷ []) 9 (two 1 (Var 0) 2 int) (two 1 int 2 string) ≡ fails (Mismatch string int) (Some int ∷ []) 5
unfolding try
failure_keeps_bindings = refl

-- An unknown is bound to what stands opposite, at the end of its chain; one visit for the entry, one for the occurs check.
binds_found_side : try (None ∷ None ∷ []) 9 (Var 0) (Var 1) ≡ succeeds (Some (Var 1) ∷ None ∷ []) 7
unfolding try
binds_found_side = refl

binds_chain_end : try (Some (Var 1) ∷ None ∷ []) 9 int (Var 0) ≡ succeeds (Some (Var 1) ∷ Some int ∷ []) 7
unfolding try
binds_chain_end = refl

same_unknown : try (None ∷ []) 9 (Var 0) (Var 0) ≡ succeeds (None ∷ []) 8
unfolding try
same_unknown = refl

-- The occurs check goes through bindings and visits each part.
infinite : try (None ∷ Some (Var 0) ∷ []) 9 (Var 0) (two 1 int 2 (Var 1)) ≡ fails Infinite (None ∷ Some (Var 0) ∷ []) 5
unfolding try
infinite = refl

-- Discriminants ascending; for each its presence, then the name, then the payload.
alternatives_in_any_order : try (None ∷ []) 9 (alternatives 7 2 int 7 1 string) (alternatives 7 1 string 7 2 (Var 0)) ≡ succeeds (Some int ∷ []) 5
unfolding try
alternatives_in_any_order = refl

alternative_renamed : try [] 9 (alternatives 7 2 int 8 1 string) (alternatives 9 1 int 7 2 string)
    ≡ fails (UnionMismatch (Renamed 9 8 1) (alternatives 9 1 int 7 2 string) (alternatives 7 2 int 8 1 string)) [] 8
unfolding try
alternative_renamed = refl

alternative_absent : try [] 9 (alternatives 7 3 int 8 2 int) (alternatives 7 3 int 8 1 int)
    ≡ fails (UnionMismatch (Absent 8 1) (alternatives 7 3 int 8 1 int) (alternatives 7 3 int 8 2 int)) [] 8
unfolding try
alternative_absent = refl

payload_differs : try [] 9 (alternatives 7 1 (one 1 int) 8 2 int) (alternatives 7 1 (one 2 int) 8 2 int)
    ≡ fails (UnionMismatch (Payload 7 1) (alternatives 7 1 (one 2 int) 8 2 int) (alternatives 7 1 (one 1 int) 8 2 int)) [] 7
unfolding try
payload_differs = refl

-- Out of visits is neither success nor failure, in an entry or in its occurs check.
no_visit : try [] 0 int string ≡ stops [] 0
unfolding try
no_visit = refl

stops_in_fields : try (None ∷ None ∷ []) 3 (two 1 (Var 0) 2 (Var 1)) (two 1 int 2 int) ≡ stops (Some int ∷ None ∷ []) 0
unfolding try
stops_in_fields = refl

stops_in_occurs : try (None ∷ []) 2 (Var 0) (one 1 (Var 0)) ≡ stops (None ∷ []) 0
unfolding try
stops_in_occurs = refl

last_visit : try (None ∷ []) 3 (Var 0) (one 1 (Var 0)) ≡ fails Infinite (None ∷ []) 0
unfolding try
last_visit = refl

-- A rollback past a new unknown: both bindings go, both unknowns stay, the annotation goes.
unfoldable made : State
unfolding fresh
made = fresh (record { subst = []; tys = None ∷ []; undo = []; left = 9; history = start })

unfoldable later : State
unfolding made fresh set_var annotate
later = annotate (set_var (set_var (fresh made) 1 int) 0 (Var 1)) 0 int

rollback_past_unknown : (rollback later (snapshot made)).subst ≡ None ∷ None ∷ []
unfolding later rollback snapshot
rollback_past_unknown = refl

rollback_annotation : (rollback later (snapshot made)).tys ≡ None ∷ []
unfolding later rollback snapshot
rollback_annotation = refl

zonks_every_depth : zonk (Some (one 1 (Var 1)) ∷ Some (Var 2) ∷ None ∷ []) (two 1 (Var 0) 2 int) ≡ two 1 (one 1 (Var 2)) 2 int
unfolding zonk
zonks_every_depth = refl

-- ---- A list of calls whose sides meet the proviso
unfoldable pub first_unknown : Machine
unfolding begin fresh
first_unknown = record { state = fresh (begin 9 []).state; taken = [] }

unfoldable pub united : State
unfolding first_unknown set_var with_left
united = with_history (set_var (with_left first_unknown.state 7) 0 int) (ended (None ∷ []) (Var 0) int true (Some int ∷ []) start)

calls_united : Calls 9 [] (record { state = united; taken = [] })
unfolding united first_unknown unify fresh begin with_history set_var with_left
calls_united = then_call (then_call none_yet unknown) (unification {m = first_unknown} (Var 0) int (omega arith) tt refl)

-- So demand 3 says of it that exactly the assignments of Int to the unknown respect the bindings.
united_means : (σ : ℕ → Ty) → Assignment σ → Respects σ united.subst ↔ (SameTy (σ 0) int × Unit {0})
unfolding BindingsClaim live united app with_history set_var with_left first_unknown fresh begin
united_means σ a = (demand_3 9 [] _ calls_united).between_calls.bindings (admitted_free (None ∷ []) 0 refl, admitted_leaf (None ∷ []) Int, tt) σ a
