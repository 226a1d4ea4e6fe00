-- Each entry costs a visit and visits never grow, so any depth not below the visits left gives the same unification.
use mathlib.Core.Bool.{Bool, true, false}
use mathlib.Core.List.{List, [], ◌∷◌}
use mathlib.Core.Path.{◌≡◌, refl, sym, ◌∙◌, ap}
use Prim.Native.Nat.{ℕ, zero, suc, ◌≤◌}
use native.Mathlib.Omega.{arith}
use lib.Dec.{eqb}
use Rattle.unification.specs.Ty.{Kind, Record, Union, Ty, leaf, node, Var, Error, Row, ε, cell, row_len}
use Rattle.unification.specs.Bindings.{repr, State, with_left}
use Rattle.unification.specs.Unify.{UnionDiff, TyError, Unified, Ok, Err, Spent, and_then, bind_var, find_key, unify_field, unify_fields, unify_record}
use Rattle.unification.specs.Unify.{discriminants, unify_alternative, unify_alternatives, unify_union, unify_nodes, unify_heads, note, unify_in, unify}
use Rattle.unification.proofs.Occurs.{occurs_depth}
use Rattle.unification.proofs.Kept.{After, Kept, heads_in, unify_in_spent, unify_in_visit, unify_in_kept, kept_field, kept_alternative}
use Rattle.std.specs.Prelude.{None, Option, Some}

bind_var_depth : (d e : ℕ) (st : State) (x : ℕ) (t : Ty) → st.left ≤ d → st.left ≤ e → bind_var d st x t ≡ bind_var e st x t
unfolding bind_var
bind_var_depth d e st x t p q = rw (occurs_depth d e st.subst x st.left t p q, bind_var)

-- What follows agrees wherever the first part may end.
then_depth : (m : ℕ) (st : State) (res res' : Unified) (f g : State → Unified) → st.left ≤ m → res ≡ res' → After (Kept st) res
    → ((b : State) → b.left ≤ m → f b ≡ g b) → and_then res f ≡ and_then res' g
unfolding and_then
then_depth m st res res' f g le e k h = rw (← e) (go res k)
  where
    go : (r : Unified) → After (Kept st) r → and_then r f ≡ and_then r g
    go (Ok b) p = h b (omega (arith, p.since.left))
    go (Err c b) p = refl
    go (Spent b) p = refl

-- Two unifiers that agree where at most m visits are left.
module _ (u u' : State → Ty → Ty → Unified) (m : ℕ) (rec : (st : State) (a b : Ty) → After (Kept st) (u st a b))
    (agree : (st : State) (a b : Ty) → st.left ≤ m → u st a b ≡ u' st a b) where
  field_depth : (st : State) (k : ℕ) (x : Ty) (o : Option (ℕ × Ty)) → st.left ≤ m → unify_field u st k x o ≡ unify_field u' st k x o
  unfolding unify_field
  field_depth st k x None le = refl
  field_depth st k x (Some y) le = agree st x y.1 le

  fields_depth : (st : State) (xs ys : Row) → st.left ≤ m → unify_fields u st xs ys ≡ unify_fields u' st xs ys
  unfolding unify_fields
  fields_depth st ε ys le = refl
  fields_depth st (cell k l x xs) ys le =
      then_depth m st _ _ _ _ le (field_depth st k x (find_key k ys) le) (kept_field u rec st k x (find_key k ys)) (λ b p. fields_depth b xs ys p)

  record_depth : (st : State) (xs ys : Row) → st.left ≤ m → unify_record u st xs ys ≡ unify_record u' st xs ys
  unfolding unify_record
  record_depth st xs ys le = go (eqb (row_len xs) (row_len ys)) refl
    where
      go : (b : Bool) → eqb (row_len xs) (row_len ys) ≡ b → unify_record u st xs ys ≡ unify_record u' st xs ys
      go true q = rw (q, unify_record) (fields_depth st xs ys le)
      go false q = rw (q, unify_record)

  alternative_depth : (st : State) (differ : UnionDiff → TyError) (k : ℕ) (o o' : Option (ℕ × Ty)) → st.left ≤ m
      → unify_alternative u st differ k o o' ≡ unify_alternative u' st differ k o o'
  unfolding unify_alternative
  alternative_depth st differ k None None le = refl
  alternative_depth st differ k None (Some y) le = refl
  alternative_depth st differ k (Some x) None le = refl
  alternative_depth st differ k (Some x) (Some y) le = go (eqb x.0 y.0) refl
    where
      go : (b : Bool) → eqb x.0 y.0 ≡ b → unify_alternative u st differ k (Some x) (Some y) ≡ unify_alternative u' st differ k (Some x) (Some y)
      go true q = rw (q, unify_alternative, agree st x.1 y.1 le)
      go false q = rw (q, unify_alternative)

  alternatives_depth : (st : State) (differ : UnionDiff → TyError) (ks : List ℕ) (xs ys : Row) → st.left ≤ m
      → unify_alternatives u st differ ks xs ys ≡ unify_alternatives u' st differ ks xs ys
  unfolding unify_alternatives
  alternatives_depth st differ [] xs ys le = refl
  alternatives_depth st differ (k ∷ ks) xs ys le =
      then_depth m st _ _ _ _ le (alternative_depth st differ k (find_key k xs) (find_key k ys) le)
      (kept_alternative u rec st differ k (find_key k xs) (find_key k ys)) (λ b p. alternatives_depth b differ ks xs ys p)

  nodes_depth : (st : State) (k : Kind) (xs : Row) (k' : Kind) (ys : Row) → st.left ≤ m → unify_nodes u st k xs k' ys ≡ unify_nodes u' st k xs k' ys
  unfolding unify_nodes unify_union
  nodes_depth st Record xs Record ys le = record_depth st xs ys le
  nodes_depth st Record xs Union ys le = refl
  nodes_depth st Union xs Record ys le = refl
  nodes_depth st Union xs Union ys le = alternatives_depth st _ (discriminants xs ys) xs ys le

  heads_depth : (d e : ℕ) (st : State) (a b : Ty) → st.left ≤ m → st.left ≤ d → st.left ≤ e → unify_heads d u st a b ≡ unify_heads e u' st a b
  unfolding unify_heads
  heads_depth d e st Error Error le p q = refl
  heads_depth d e st Error (leaf y) le p q = refl
  heads_depth d e st Error (node k r) le p q = refl
  heads_depth d e st Error (Var y) le p q = refl
  heads_depth d e st (leaf x) Error le p q = refl
  heads_depth d e st (node k r) Error le p q = refl
  heads_depth d e st (Var x) Error le p q = refl
  heads_depth d e st (Var x) (Var y) le p q = go (eqb x y) refl
    where
      go : (b : Bool) → eqb x y ≡ b → unify_heads d u st (Var x) (Var y) ≡ unify_heads e u' st (Var x) (Var y)
      go true i = rw (i, unify_heads)
      go false i = rw (i, unify_heads) (bind_var_depth d e st x (Var y) p q)
  heads_depth d e st (Var x) (leaf y) le p q = bind_var_depth d e st x (leaf y) p q
  heads_depth d e st (Var x) (node k r) le p q = bind_var_depth d e st x (node k r) p q
  heads_depth d e st (leaf x) (Var y) le p q = bind_var_depth d e st y (leaf x) p q
  heads_depth d e st (node k r) (Var y) le p q = bind_var_depth d e st y (node k r) p q
  heads_depth d e st (leaf x) (leaf y) le p q = refl
  heads_depth d e st (leaf x) (node k r) le p q = refl
  heads_depth d e st (node k r) (leaf y) le p q = refl
  heads_depth d e st (node k r) (node k' r') le p q = nodes_depth st k r k' r' le

pub unify_in_depth : (d e : ℕ) (st : State) (a b : Ty) → st.left ≤ d → st.left ≤ e → unify_in d st a b ≡ unify_in e st a b
unfolding unify_in heads_in with_left
unify_in_depth zero zero st a b p q = refl
unify_in_depth zero (suc e) st a b p q = sym (unify_in_spent e st a b (omega arith))
unify_in_depth (suc d) zero st a b p q = unify_in_spent d st a b (omega arith)
unify_in_depth (suc d) (suc e) st a b p q = go st.left refl (λ st' a' b' p' q'. unify_in_depth d e st' a' b' p' q')
  where
    go : (v : ℕ) → st.left ≡ v → ((st' : State) (a' b' : Ty) → st'.left ≤ d → st'.left ≤ e → unify_in d st' a' b' ≡ unify_in e st' a' b')
        → unify_in (suc d) st a b ≡ unify_in (suc e) st a b
    go zero i ih = unify_in_spent d st a b i ∙ sym (unify_in_spent e st a b i)
    go (suc v) i ih =
        unify_in_visit d st v a b i
        ∙ ap (note st.subst a b) (heads_depth (λ st' a' b'. unify_in d st' a' b') (λ st' a' b'. unify_in e st' a' b') v
        (λ st' a' b'. unify_in_kept d st' a' b') (λ st' a' b' l. ih st' a' b' (omega arith) (omega arith))
        d e (with_left st v) (repr st.subst a) (repr st.subst b) (omega arith) (omega arith) (omega arith))
        ∙ sym (unify_in_visit e st v a b i)

-- `unify` takes the visits left for its depth.
pub unify_depth : (d : ℕ) (st : State) (a b : Ty) → st.left ≤ d → unify_in d st a b ≡ unify st a b
unfolding unify
unify_depth d st a b le = unify_in_depth d st.left st a b le (omega arith)
