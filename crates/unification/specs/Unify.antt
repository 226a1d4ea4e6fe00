-- `unify` of ty.rs with `unify_shapes`, `unify_union` and `bind_var`, and `orderable`. An entry costs a visit, and none
-- is made when no visit is left.
use Rattle.std.specs.Prelude.{true, false, List, [], ◌∷◌, ℕ, zero, suc, eqb, ltb, None, Option, Some}
use Rattle.std.proofs.Math.Decide.{ℕ_discrete}
use Rattle.unification.specs.Ty.{Leaf, Int, String, Bytes, Fact, Leaf-discrete, Kind, Record, Union, Ty, leaf, node, Var, Error, Row, ε, cell, row_len}
use Rattle.unification.specs.Bindings.{Subst, repr, Answer, yes_left, no_left, spent, occurs, State, with_left, set_var, ended}

-- How two unions first differ, in discriminant order.
pub data UnionDiff : Type 0 where
  -- name, discriminant
  Absent : ℕ → ℕ → UnionDiff
  -- expected, got, discriminant
  Renamed : ℕ → ℕ → ℕ → UnionDiff
  -- name, discriminant
  Payload : ℕ → ℕ → UnionDiff

-- Why two types could not be made equal: what was expected, what was got.
pub data TyError : Type 0 where
  Mismatch : Ty → Ty → TyError
  UnionMismatch : UnionDiff → Ty → Ty → TyError
  UnknownField : ℕ → TyError
  Infinite : TyError

-- How a unification ends: it succeeds, it fails, or the visits ran out in it. A failure keeps the bindings made so far.
pub data Unified : Type 0 where
  Ok : State → Unified
  Err : TyError → State → Unified
  Spent : State → Unified

-- The state in which it ended.
abbrev pub end_of : Unified → State
end_of (Ok st) = st
end_of (Err e st) = st
end_of (Spent st) = st

-- `?`
unfoldable pub and_then : Unified → (State → Unified) → Unified
and_then (Ok st) f = f st
and_then (Err e st) f = Err e st
and_then (Spent st) f = Spent st

-- `map_err`
unfoldable pub map_err : TyError → Unified → Unified
map_err e (Ok st) = Ok st
map_err e (Err _ st) = Err e st
map_err e (Spent st) = Spent st

-- `bind_var`
unfoldable pub bind_var : ℕ → State → ℕ → Ty → Unified
unfolding occurs set_var with_left
bind_var d st x t = elim (occurs d st.subst x st.left t)
    [ yes_left v ↦ Err Infinite (with_left st v) | no_left v ↦ Ok (set_var (with_left st v) x t) | spent ↦ Spent (with_left st zero) ]

-- The first cell with this key: its label and its type.
unfoldable pub find_key : ℕ → Row → Option (ℕ × Ty)
find_key k ε = None
find_key k (cell m l t r) = elim (eqb k m) [ true ↦ Some (l, t) | false ↦ find_key k r ]

-- The first cell with this label: its type. (In a union the label is the alternative's name.)
unfoldable pub find_label : ℕ → Row → Option Ty
find_label n ε = None
find_label n (cell k l t r) = elim (eqb n l) [ true ↦ Some t | false ↦ find_label n r ]

-- Each name of the found side is sought in the expected; `u` is `unify` one level down.
unfoldable pub unify_field : (State → Ty → Ty → Unified) → State → ℕ → Ty → Option (ℕ × Ty) → Unified
unify_field u st k x None = Err (UnknownField k) st
unify_field u st k x (Some y) = u st x y.1

unfoldable pub unify_fields : (State → Ty → Ty → Unified) → State → Row → Row → Unified
unfolding and_then unify_field find_key
unify_fields u st ε ys = Ok st
unify_fields u st (cell k l x xs) ys = and_then (unify_field u st k x (find_key k ys)) (λ st'. unify_fields u st' xs ys)

unfoldable pub unify_record : (State → Ty → Ty → Unified) → State → Row → Row → Unified
unfolding unify_fields row_len
unify_record u st xs ys = elim (eqb (row_len xs) (row_len ys)) [ true ↦ unify_fields u st xs ys | false ↦ Err (Mismatch (node Record ys) (node Record xs)) st ]

-- Into an ascending list, once.
unfoldable pub insert_once : ℕ → List ℕ → List ℕ
insert_once k [] = k ∷ []
insert_once k (m ∷ ms) = elim (eqb k m) [ true ↦ m ∷ ms | false ↦ elim (ltb k m) [ true ↦ k ∷ m ∷ ms | false ↦ m ∷ insert_once k ms ] ]

unfoldable pub with_keys : Row → List ℕ → List ℕ
unfolding insert_once
with_keys ε ks = ks
with_keys (cell k l t r) ks = insert_once k (with_keys r ks)

-- Every discriminant that either side declares, ascending.
unfoldable pub discriminants : Row → Row → List ℕ
unfolding with_keys
discriminants xs ys = with_keys xs (with_keys ys [])

-- One discriminant: presence on both sides, then the name, then the payload. (A discriminant that neither side
-- declares is never asked for.)
unfoldable pub unify_alternative : (State → Ty → Ty → Unified) → State → (UnionDiff → TyError) → ℕ → Option (ℕ × Ty) → Option (ℕ × Ty) → Unified
unfolding map_err
unify_alternative u st differ k None None = Ok st
unify_alternative u st differ k None (Some y) = Err (differ (Absent y.0 k)) st
unify_alternative u st differ k (Some x) None = Err (differ (Absent x.0 k)) st
unify_alternative u st differ k (Some x) (Some y) =
    elim (eqb x.0 y.0) [ true ↦ map_err (differ (Payload x.0 k)) (u st x.1 y.1) | false ↦ Err (differ (Renamed y.0 x.0 k)) st ]

unfoldable pub unify_alternatives : (State → Ty → Ty → Unified) → State → (UnionDiff → TyError) → List ℕ → Row → Row → Unified
unfolding unify_alternative and_then find_key
unify_alternatives u st differ [] xs ys = Ok st
unify_alternatives u st differ (k ∷ ks) xs ys =
    and_then (unify_alternative u st differ k (find_key k xs) (find_key k ys)) (λ st'. unify_alternatives u st' differ ks xs ys)

-- `unify_union`
unfoldable pub unify_union : (State → Ty → Ty → Unified) → State → Row → Row → Unified
unfolding unify_alternatives discriminants
unify_union u st xs ys = unify_alternatives u st (λ diff. UnionMismatch diff (node Union ys) (node Union xs)) (discriminants xs ys) xs ys

unfoldable pub unify_nodes : (State → Ty → Ty → Unified) → State → Kind → Row → Kind → Row → Unified
unfolding unify_record unify_union
unify_nodes u st Record xs Record ys = unify_record u st xs ys
unify_nodes u st Record xs Union ys = Err (Mismatch (node Union ys) (node Record xs)) st
unify_nodes u st Union xs Record ys = Err (Mismatch (node Record ys) (node Union xs)) st
unify_nodes u st Union xs Union ys = unify_union u st xs ys

-- What `unify` does with its two resolved sides: Error first, then unknowns, then `unify_shapes`.
unfoldable pub unify_heads : ℕ → (State → Ty → Ty → Unified) → State → Ty → Ty → Unified
unfolding bind_var unify_nodes set_var
unify_heads d u st Error Error = Ok st
unify_heads d u st Error (leaf q) = Ok st
unify_heads d u st Error (node k r) = Ok st
unify_heads d u st Error (Var y) = Ok (set_var st y Error)
unify_heads d u st (leaf p) Error = Ok st
unify_heads d u st (node k r) Error = Ok st
unify_heads d u st (Var x) Error = Ok (set_var st x Error)
unify_heads d u st (Var x) (Var y) = elim (eqb x y) [ true ↦ Ok st | false ↦ bind_var d st x (Var y) ]
unify_heads d u st (Var x) (leaf q) = bind_var d st x (leaf q)
unify_heads d u st (Var x) (node k r) = bind_var d st x (node k r)
unify_heads d u st (leaf p) (Var y) = bind_var d st y (leaf p)
unify_heads d u st (node k r) (Var y) = bind_var d st y (node k r)
unify_heads d u st (leaf p) (leaf q) = elim (Leaf-discrete ℕ_discrete p q) [ yes e ↦ Ok st | no n ↦ Err (Mismatch (leaf q) (leaf p)) st ]
unify_heads d u st (leaf p) (node k r) = Err (Mismatch (node k r) (leaf p)) st
unify_heads d u st (node k r) (leaf q) = Err (Mismatch (leaf q) (node k r)) st
unify_heads d u st (node k r) (node k' r') = unify_nodes u st k r k' r'

-- The entry is noted when it ends; one in which the visits ran out has not ended.
unfoldable pub note : Subst → Ty → Ty → Unified → Unified
note s a b (Ok st) = Ok (record { subst = st.subst; tys = st.tys; undo = st.undo; left = st.left; history = ended s a b true st.subst st.history })
note s a b (Err e st) = Err e (record { subst = st.subst; tys = st.tys; undo = st.undo; left = st.left; history = ended s a b false st.subst st.history })
note s a b (Spent st) = Spent st

-- `unify`, the found side first. The number bounds how deep calls go; each call costs a visit, so any that is not below
-- the visits left serves.
unfoldable pub unify_in : ℕ → State → Ty → Ty → Unified
unfolding unify_heads repr note with_left
unify_in zero st got expected = Spent st
unify_in (suc d) st got expected = elim st.left [
  | zero ↦ Spent st
  | suc v ↦ note st.subst got expected
      (unify_heads d (λ st' a b. unify_in d st' a b) (with_left st v) (repr st.subst got) (repr st.subst expected))
]

unfoldable pub unify : State → Ty → Ty → Unified
unfolding unify_in
unify st got expected = unify_in st.left st got expected

-- A question that costs one visit before it is asked.
unfoldable pub visited : ℕ → (ℕ → Answer) → Answer
visited zero ask = spent
visited (suc v) ask = ask v

unfoldable pub leaf_orderable : Leaf → ℕ → Answer
leaf_orderable Int v = yes_left v
leaf_orderable String v = yes_left v
leaf_orderable Bytes v = yes_left v
leaf_orderable (Fact p) v = no_left v

-- `orderable`, of a resolved type; a row to its first no.
unfoldable mutual
  unfolding visited leaf_orderable

  pub orderable : Ty → ℕ → Answer
  orderable (leaf p) v = visited v (λ w. leaf_orderable p w)
  orderable (node k r) v = visited v (λ w. all_orderable r w)
  orderable (Var x) v = visited v (λ w. yes_left w)
  orderable Error v = visited v (λ w. yes_left w)

  pub all_orderable : Row → ℕ → Answer
  all_orderable ε v = yes_left v
  all_orderable (cell k l t r) v = elim (orderable t v) [ yes_left w ↦ all_orderable r w | no_left w ↦ no_left w | spent ↦ spent ]
