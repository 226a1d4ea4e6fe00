-- What every unification keeps, on any sides: the annotations, and all that `Since` says with no unknown made, the visits
-- left never growing among it. So a depth not below the visits left is as good as any other.
use mathlib.Core.Bool.{Bool, true, false}
use mathlib.Core.List.{List, [], ◌∷◌}
use mathlib.Core.Path.{◌≡◌, refl, ◌∙◌, ap}
use Prim.Native.Nat.{ℕ, zero, suc, ◌≤◌}
use native.Mathlib.Decide.{ℕ_discrete}
use native.Mathlib.Nat.{add-zero}
use native.Mathlib.Omega.{arith}
use lib.Dec.{eqb}
use lib.ListN.{length}
use Rattle.unification.specs.Ty.{Leaf-discrete, Kind, Record, Union, Ty, leaf, node, Var, Error, Row, ε, cell, row_len}
use Rattle.unification.specs.Bindings.{Subst, repr, Answer, yes_left, no_left, spent, occurs, History, ended, State, with_left, with_history, set_var}
use Rattle.unification.specs.Unify.{UnionDiff, TyError, Unified, Ok, Err, Spent, and_then, map_err, bind_var, find_key, unify_field, unify_fields}
use Rattle.unification.specs.Unify.{unify_record, discriminants, unify_alternative, unify_alternatives, unify_union, unify_nodes, unify_heads, note}
use Rattle.unification.specs.Unify.{unify_in, unify}
use Rattle.unification.proofs.Occurs.{Fewer, occurs_fewer}
use Rattle.unification.proofs.Undo.{Since, since_refl, since_trans, since_length, since_history, since_set_var, since_left}
use Rattle.std.specs.Prelude.{None, Option, Some}

-- Of the state in which a unification ended, however it ended.
abbrev pub After : (State → Type 0) → Unified → Type 0
After Q (Ok st) = Q st
After Q (Err e st) = Q st
After Q (Spent st) = Q st

pub record Kept (st st' : State) : Type 0 where
  pub since : Since 0 st st'
  pub tys : st'.tys ≡ st.tys

kept_refl : (st : State) → Kept st st
kept_refl st = record { since = since_refl st; tys = refl }

kept_trans : (a b c : State) → Kept a b → Kept b c → Kept a c
kept_trans a b c p q = record { since = since_trans p.since q.since; tys = q.tys ∙ p.tys }

kept_left : (st : State) (v : ℕ) → v ≤ st.left → Kept st (with_left st v)
unfolding with_left
kept_left st v le = record { since = since_left st v le; tys = refl }

kept_set_var : (st : State) (x : ℕ) (t : Ty) → Kept st (set_var st x t)
unfolding set_var
kept_set_var st x t = record { since = since_set_var st x t; tys = refl }

after_trans : (st st' : State) (res : Unified) → Kept st st' → After (Kept st') res → After (Kept st) res
after_trans st st' (Ok c) p q = kept_trans st st' c p q
after_trans st st' (Err e c) p q = kept_trans st st' c p q
after_trans st st' (Spent c) p q = kept_trans st st' c p q

kept_then : (st : State) (res : Unified) (f : State → Unified) → After (Kept st) res → ((b : State) → After (Kept b) (f b)) → After (Kept st) (and_then res f)
unfolding and_then
kept_then st (Ok b) f p q = after_trans st b (f b) p (q b)
kept_then st (Err e b) f p q = p
kept_then st (Spent b) f p q = p

kept_map_err : (st : State) (e : TyError) (res : Unified) → After (Kept st) res → After (Kept st) (map_err e res)
unfolding map_err
kept_map_err st e (Ok b) p = p
kept_map_err st e (Err e' b) p = p
kept_map_err st e (Spent b) p = p

kept_note : (st : State) (s : Subst) (a b : Ty) (res : Unified) → After (Kept st) res → After (Kept st) (note s a b res)
unfolding note with_history
kept_note st s a b (Ok c) p = record { since = since_history (ended s a b true c.subst c.history) p.since; tys = p.tys }
kept_note st s a b (Err e c) p = record { since = since_history (ended s a b false c.subst c.history) p.since; tys = p.tys }
kept_note st s a b (Spent c) p = p

kept_bind_var : (d : ℕ) (st : State) (x : ℕ) (t : Ty) → After (Kept st) (bind_var d st x t)
unfolding bind_var
kept_bind_var d st x t = go (occurs d st.subst x st.left t) refl (occurs_fewer d st.subst x st.left t)
  where
    go : (a : Answer) → occurs d st.subst x st.left t ≡ a → Fewer st.left a → After (Kept st) (bind_var d st x t)
    go (yes_left v) e f = rw (e, bind_var) (kept_left st v f)
    go (no_left v) e f = rw (e, bind_var) (kept_trans st (with_left st v) (set_var (with_left st v) x t) (kept_left st v f) (kept_set_var (with_left st v) x t))
    go spent e f = rw (e, bind_var) (kept_left st zero (omega arith))

module _ (u : State → Ty → Ty → Unified) (rec : (st : State) (a b : Ty) → After (Kept st) (u st a b)) where
  pub kept_field : (st : State) (k : ℕ) (x : Ty) (o : Option (ℕ × Ty)) → After (Kept st) (unify_field u st k x o)
  unfolding unify_field
  kept_field st k x None = kept_refl st
  kept_field st k x (Some y) = rec st x y.1

  kept_fields : (st : State) (xs ys : Row) → After (Kept st) (unify_fields u st xs ys)
  unfolding unify_fields
  kept_fields st ε ys = kept_refl st
  kept_fields st (cell k l x xs) ys =
      kept_then st (unify_field u st k x (find_key k ys)) (λ b. unify_fields u b xs ys) (kept_field st k x (find_key k ys)) (λ b. kept_fields b xs ys)

  kept_record : (st : State) (xs ys : Row) → After (Kept st) (unify_record u st xs ys)
  unfolding unify_record
  kept_record st xs ys = go (eqb (row_len xs) (row_len ys)) refl
    where
      go : (b : Bool) → eqb (row_len xs) (row_len ys) ≡ b → After (Kept st) (unify_record u st xs ys)
      go true q = rw (q, unify_record) (kept_fields st xs ys)
      go false q = rw (q, unify_record) (kept_refl st)

  pub kept_alternative : (st : State) (differ : UnionDiff → TyError) (k : ℕ) (o o' : Option (ℕ × Ty)) → After (Kept st) (unify_alternative u st differ k o o')
  unfolding unify_alternative
  kept_alternative st differ k None None = kept_refl st
  kept_alternative st differ k None (Some y) = kept_refl st
  kept_alternative st differ k (Some x) None = kept_refl st
  kept_alternative st differ k (Some x) (Some y) = go (eqb x.0 y.0) refl
    where
      go : (b : Bool) → eqb x.0 y.0 ≡ b → After (Kept st) (unify_alternative u st differ k (Some x) (Some y))
      go true q = rw (q, unify_alternative) (kept_map_err st _ (u st x.1 y.1) (rec st x.1 y.1))
      go false q = rw (q, unify_alternative) (kept_refl st)

  kept_alternatives : (st : State) (differ : UnionDiff → TyError) (ks : List ℕ) (xs ys : Row) → After (Kept st) (unify_alternatives u st differ ks xs ys)
  unfolding unify_alternatives
  kept_alternatives st differ [] xs ys = kept_refl st
  kept_alternatives st differ (k ∷ ks) xs ys =
      kept_then st (unify_alternative u st differ k (find_key k xs) (find_key k ys)) (λ b. unify_alternatives u b differ ks xs ys)
      (kept_alternative st differ k (find_key k xs) (find_key k ys)) (λ b. kept_alternatives b differ ks xs ys)

  kept_nodes : (st : State) (k : Kind) (xs : Row) (k' : Kind) (ys : Row) → After (Kept st) (unify_nodes u st k xs k' ys)
  unfolding unify_nodes unify_union
  kept_nodes st Record xs Record ys = kept_record st xs ys
  kept_nodes st Record xs Union ys = kept_refl st
  kept_nodes st Union xs Record ys = kept_refl st
  kept_nodes st Union xs Union ys = kept_alternatives st _ (discriminants xs ys) xs ys

  kept_heads : (d : ℕ) (st : State) (a b : Ty) → After (Kept st) (unify_heads d u st a b)
  unfolding unify_heads
  kept_heads d st Error Error = kept_refl st
  kept_heads d st Error (leaf q) = kept_refl st
  kept_heads d st Error (node k r) = kept_refl st
  kept_heads d st Error (Var y) = kept_set_var st y Error
  kept_heads d st (leaf p) Error = kept_refl st
  kept_heads d st (node k r) Error = kept_refl st
  kept_heads d st (Var x) Error = kept_set_var st x Error
  kept_heads d st (Var x) (Var y) = go (eqb x y) refl
    where
      go : (b : Bool) → eqb x y ≡ b → After (Kept st) (unify_heads d u st (Var x) (Var y))
      go true q = rw (q, unify_heads) (kept_refl st)
      go false q = rw (q, unify_heads) (kept_bind_var d st x (Var y))
  kept_heads d st (Var x) (leaf q) = kept_bind_var d st x (leaf q)
  kept_heads d st (Var x) (node k r) = kept_bind_var d st x (node k r)
  kept_heads d st (leaf p) (Var y) = kept_bind_var d st y (leaf p)
  kept_heads d st (node k r) (Var y) = kept_bind_var d st y (node k r)
  kept_heads d st (leaf p) (leaf q) = go (Leaf-discrete ℕ_discrete p q) refl
    where
      go : (o : Dec (p ≡ q)) → Leaf-discrete ℕ_discrete p q ≡ o → After (Kept st) (unify_heads d u st (leaf p) (leaf q))
      go (yes e) i = rw (i, unify_heads) (kept_refl st)
      go (no n) i = rw (i, unify_heads) (kept_refl st)
  kept_heads d st (leaf p) (node k r) = kept_refl st
  kept_heads d st (node k r) (leaf q) = kept_refl st
  kept_heads d st (node k r) (node k' r') = kept_nodes st k r k' r'

-- ---- One entry, by the visits left
unfoldable pub heads_in : ℕ → State → ℕ → Ty → Ty → Unified
heads_in d st v a b = unify_heads d (λ st' a' b'. unify_in d st' a' b') (with_left st v) (repr st.subst a) (repr st.subst b)

pub unify_in_spent : (d : ℕ) (st : State) (a b : Ty) → st.left ≡ zero → unify_in (suc d) st a b ≡ Spent st
unfolding unify_in heads_in
unify_in_spent d st a b e = ap {B = Unified} (λ (v : ℕ). elim v [ zero ↦ Spent st | suc v ↦ note st.subst a b (heads_in d st v a b) ]) e

pub unify_in_visit : (d : ℕ) (st : State) (v : ℕ) (a b : Ty) → st.left ≡ suc v → unify_in (suc d) st a b ≡ note st.subst a b (heads_in d st v a b)
unfolding unify_in heads_in
unify_in_visit d st v a b e = ap {B = Unified} (λ (v : ℕ). elim v [ zero ↦ Spent st | suc v ↦ note st.subst a b (heads_in d st v a b) ]) e

pub unify_in_kept : (d : ℕ) (st : State) (a b : Ty) → After (Kept st) (unify_in d st a b)
unfolding unify_in heads_in
unify_in_kept zero st a b = kept_refl st
unify_in_kept (suc d) st a b = go st.left refl (λ st' a' b'. unify_in_kept d st' a' b')
  where
    go : (v : ℕ) → st.left ≡ v → ((st' : State) (a' b' : Ty) → After (Kept st') (unify_in d st' a' b')) → After (Kept st) (unify_in (suc d) st a b)
    go zero e ih = rw (unify_in_spent d st a b e) (kept_refl st)
    go (suc v) e ih =
        rw (unify_in_visit d st v a b e) (kept_note st st.subst a b (heads_in d st v a b)
        (after_trans st (with_left st v) (heads_in d st v a b) (kept_left st v (omega arith))
        (kept_heads (λ st' a' b'. unify_in d st' a' b') ih d (with_left st v) (repr st.subst a) (repr st.subst b))))

-- ---- An entry that ended is the last of the history
abbrev pub Notes : Subst → Ty → Ty → Unified → Type 0
Notes s a b (Ok st) = (h : History) × (st.history ≡ ended s a b true st.subst h)
Notes s a b (Err e st) = (h : History) × (st.history ≡ ended s a b false st.subst h)
Notes s a b (Spent st) = Unit {0}

notes : (s : Subst) (a b : Ty) (res : Unified) → Notes s a b (note s a b res)
unfolding note
notes s a b (Ok st) = (st.history, refl)
notes s a b (Err e st) = (st.history, refl)
notes s a b (Spent st) = tt

pub unify_notes : (st : State) (a b : Ty) → Notes st.subst a b (unify st a b)
unfolding unify unify_in
unify_notes st a b = go st.left refl
  where
    go : (v : ℕ) → st.left ≡ v → Notes st.subst a b (unify_in v st a b)
    go zero e = tt
    go (suc v) e = rw (unify_in_visit v st v a b e) (notes st.subst a b (heads_in v st v a b))

-- ---- The parts of it, for a unification
pub unify_kept : (st : State) (a b : Ty) → After (Kept st) (unify st a b)
unfolding unify
unify_kept st a b = unify_in_kept st.left st a b

pub kept_length : (st st' : State) → Kept st st' → length st'.subst ≡ length st.subst
kept_length st st' p = since_length p.since ∙ add-zero (length st.subst)
