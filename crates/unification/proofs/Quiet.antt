-- A unification that bound nothing goes the same way each time under the same bindings: it succeeds at the same cost, or it is
-- stopped where fewer visits are left, and again nothing is bound.
use mathlib.Core.Bool.{Bool, true, false}
use mathlib.Core.List.{List, [], ◌∷◌}
use mathlib.Core.Path.{◌≡◌, refl, ◌∙◌, ap}
use Prim.Native.Nat.{ℕ, zero, suc, ◌+◌, ◌<◌, ◌≤◌}
use native.Mathlib.Decide.{ℕ_discrete}
use native.Mathlib.Omega.{arith}
use lib.Dec.{eqb}
use lib.ListN.{length}
use Rattle.unification.specs.Ty.{Leaf-discrete, Kind, Record, Union, Ty, leaf, node, Var, Error, Row, ε, cell, row_len}
use Rattle.unification.specs.Bindings.{Subst, follow, repr, Answer, yes_left, no_left, spent, occurs, History, ended, State, with_left, set_var}
use Rattle.unification.specs.Unify.{UnionDiff, TyError, Unified, Ok, Err, Spent, and_then, map_err, bind_var, find_key, unify_field, unify_fields}
use Rattle.unification.specs.Unify.{unify_record, discriminants, unify_alternative, unify_alternatives, unify_union, unify_nodes, unify_heads, note}
use Rattle.unification.specs.Unify.{unify_in}
use Rattle.unification.specs.Quiet.{resting, Quiet, ends, stops}
use Rattle.unification.proofs.Tests.{clash}
use Rattle.unification.proofs.Kept.{After, heads_in, unify_in_spent, unify_in_visit}
use Rattle.std.specs.Prelude.{None, Option, Some}

abbrev pub Quiets : Subst → ℕ → (State → Unified) → Type 0
Quiets s k f = (st : State) → st.subst ≡ s → Quiet k st (f st)

abbrev Grown : State → State → Type 0
Grown st st' = length st.undo ≤ length st'.undo

-- A step whose success without a change tells how it goes each time.
pub record Calm (s : Subst) (f : State → Unified) : Type 0 where
  pub grows : (st : State) → After (Grown st) (f st)
  pub quiet : (st st' : State) → st.subst ≡ s → f st ≡ Ok st' → length st'.undo ≤ length st.undo → (k : ℕ) × (st.left ≡ st'.left + k) × Quiets s k f

-- ---- Steps of one thing
module _ (s : Subst) where
  calm_ok : Calm s Ok
  calm_ok = record {
    grows = λ st. omega arith;
    quiet = λ st st' e q h. let same : st ≡ st' = cc q in (0, rw same (omega arith), λ z i. ends z.left z.history (omega arith));
  }

  calm_err : (e : TyError) → Calm s (Err e)
  calm_err e = record { grows = λ st. omega arith; quiet = λ st st' i q h. clash (cc q) }

  calm_set : (x : ℕ) (t : Ty) → Calm s (λ st. Ok (set_var st x t))
  unfolding set_var
  calm_set x t = record {
    grows = λ st. omega arith;
    quiet = λ st st' i q h. let same : set_var st x t ≡ st' = cc q in absurd (omega (arith, rw (← same) at h));
  }

  bound_to : (d x : ℕ) (t : Ty) (st : State) (a : Answer) → occurs d st.subst x st.left t ≡ a
      → After (Grown st) (bind_var d st x t) × ((st' : State) → bind_var d st x t ≡ Ok st' → length st.undo < length st'.undo)
  unfolding bind_var with_left set_var
  bound_to d x t st (yes_left v) e = rw (e, bind_var) (omega arith, λ st' q. clash (cc q))
  bound_to d x t st (no_left v) e = rw (e, bind_var) (omega arith, λ st' q. let same : set_var (with_left st v) x t ≡ st' = cc q in rw (← same) (omega arith))
  bound_to d x t st spent e = rw (e, bind_var) (omega arith, λ st' q. clash (cc q))

  calm_bind : (d x : ℕ) (t : Ty) → Calm s (λ st. bind_var d st x t)
  calm_bind d x t = record {
    grows = λ st. (bound_to d x t st (occurs d st.subst x st.left t) refl).0;
    quiet = λ st st' i q h. absurd (let more = (bound_to d x t st (occurs d st.subst x st.left t) refl).1 st' q in omega arith);
  }

-- ---- Steps put together
grown_trans : (st b : State) (res : Unified) → Grown st b → After (Grown b) res → After (Grown st) res
grown_trans st b (Ok c) p q = omega arith
grown_trans st b (Err e c) p q = omega arith
grown_trans st b (Spent c) p q = omega arith

then_grows : (st : State) (res : Unified) (g : State → Unified) → After (Grown st) res → ((b : State) → After (Grown b) (g b))
    → After (Grown st) (and_then res g)
unfolding and_then
then_grows st (Ok b) g p q = grown_trans st b (g b) p (q b)
then_grows st (Err e b) g p q = p
then_grows st (Spent b) g p q = p

-- what is bound after it
pub quiet_subst : (k : ℕ) (st b : State) (res : Unified) → Quiet k st res → res ≡ Ok b → b.subst ≡ st.subst
quiet_subst k st b res (ends v h l) q = let same : resting st v h ≡ b = cc q in rw (← same)
quiet_subst k st b res (stops h l) q = clash (cc q)

module _ (s : Subst) (f g : State → Unified) (j k : ℕ) (p : Quiets s j f) (q : Quiets s k g) where
  quiet_after : (st : State) → st.subst ≡ s → (v : ℕ) (h : History) → st.left ≡ v + j → (res : Unified) → Quiet k (resting st v h) res → Quiet (j + k) st res
  quiet_after st i v h l res (ends v' h' l') = ends v' h' (omega arith)
  quiet_after st i v h l res (stops h' l') = stops h' (omega arith)

  quiet_then : (st : State) → st.subst ≡ s → (res : Unified) → Quiet j st res → Quiet (j + k) st (and_then res g)
  unfolding and_then
  quiet_then st i res (ends v h l) = quiet_after st i v h l (g (resting st v h)) (q (resting st v h) i)
  quiet_then st i res (stops h l) = stops h (omega arith)

module _ (s : Subst) (f g : State → Unified) (p : Calm s f) (q : Calm s g) where
  then_quiet : (st st' : State) → st.subst ≡ s → (res : Unified) → f st ≡ res → and_then res g ≡ Ok st' → length st'.undo ≤ length st.undo
      → (k : ℕ) × (st.left ≡ st'.left + k) × Quiets s k (λ z. and_then (f z) g)
  unfolding and_then
  then_quiet st st' i (Ok b) e z h =
      let first : Grown st b = rw e at (p.grows st) in
      let second : Grown b st' = rw z at (q.grows b) in
      let P = p.quiet st b i e (omega arith) in
      let Q = q.quiet b st' (quiet_subst P.0 st b (f st) (P.2 st i) e ∙ i) z (omega arith) in
      (P.0 + Q.0, omega (arith, P.1, Q.1), λ c l. quiet_then s f g P.0 Q.0 P.2 Q.2 c l (f c) (P.2 c l))
  then_quiet st st' i (Err x b) e z h = clash (cc z)
  then_quiet st st' i (Spent b) e z h = clash (cc z)

  calm_then : Calm s (λ st. and_then (f st) g)
  calm_then = record {
    grows = λ st. then_grows st (f st) g (p.grows st) q.grows;
    quiet = λ st st' i z h. then_quiet st st' i (f st) refl z h;
  }

-- ---- A failure under another name, and the note of an entry
map_err_grows : (e : TyError) (st : State) (res : Unified) → After (Grown st) res → After (Grown st) (map_err e res)
unfolding map_err
map_err_grows e st (Ok b) h = h
map_err_grows e st (Err x b) h = h
map_err_grows e st (Spent b) h = h

pub map_err_ok : (e : TyError) (res : Unified) (b : State) → map_err e res ≡ Ok b → res ≡ Ok b
unfolding map_err
map_err_ok e (Ok c) b q = q
map_err_ok e (Err x c) b q = clash (cc q)
map_err_ok e (Spent c) b q = clash (cc q)

map_err_quiet : (e : TyError) (k : ℕ) (st : State) (res : Unified) → Quiet k st res → Quiet k st (map_err e res)
unfolding map_err
map_err_quiet e k st res (ends v h l) = ends v h l
map_err_quiet e k st res (stops h l) = stops h l

calm_map_err : (s : Subst) (e : TyError) (f : State → Unified) → Calm s f → Calm s (λ st. map_err e (f st))
calm_map_err s e f p = record {
  grows = λ st. map_err_grows e st (f st) (p.grows st);
  quiet = λ st st' i q h. let P = p.quiet st st' i (map_err_ok e (f st) st' q) h in (P.0, P.1, λ z l. map_err_quiet e P.0 z (f z) (P.2 z l));
}

note_grows : (s : Subst) (a b : Ty) (st : State) (res : Unified) → After (Grown st) res → After (Grown st) (note s a b res)
unfolding note
note_grows s a b st (Ok c) h = h
note_grows s a b st (Err e c) h = h
note_grows s a b st (Spent c) h = h

note_quiet : (s : Subst) (a b : Ty) (k : ℕ) (st : State) (v : ℕ) → st.left ≡ suc v → (res : Unified) → Quiet k (with_left st v) res
    → Quiet (suc k) st (note s a b res)
unfolding note with_left
note_quiet s a b k st v e res (ends v' h l) = ends v' _ (omega arith)
note_quiet s a b k st v e res (stops h l) = stops h (omega arith)

-- ---- Two resolved sides; u is `unify` one level down
module _ (s : Subst) (u : State → Ty → Ty → Unified) (rec : (a b : Ty) → Calm s (λ st. u st a b)) where
  calm_field : (m : ℕ) (x : Ty) (o : Option (ℕ × Ty)) → Calm s (λ st. unify_field u st m x o)
  unfolding unify_field
  calm_field m x None = calm_err s _
  calm_field m x (Some y) = rec x y.1

  calm_fields : (xs ys : Row) → Calm s (λ st. unify_fields u st xs ys)
  unfolding unify_fields
  calm_fields ε ys = calm_ok s
  calm_fields (cell m l x xs) ys = calm_then s (λ st. unify_field u st m x (find_key m ys)) (λ st. unify_fields u st xs ys)
      (calm_field m x (find_key m ys)) (calm_fields xs ys)

  calm_record : (xs ys : Row) → Calm s (λ st. unify_record u st xs ys)
  unfolding unify_record
  calm_record xs ys = go (eqb (row_len xs) (row_len ys)) refl
    where
      go : (b : Bool) → eqb (row_len xs) (row_len ys) ≡ b → Calm s (λ st. unify_record u st xs ys)
      go true e = rw (e, unify_record) (calm_fields xs ys)
      go false e = rw (e, unify_record) (calm_err s _)

  calm_alternative : (differ : UnionDiff → TyError) (m : ℕ) (o o' : Option (ℕ × Ty)) → Calm s (λ st. unify_alternative u st differ m o o')
  unfolding unify_alternative
  calm_alternative differ m None None = calm_ok s
  calm_alternative differ m None (Some y) = calm_err s _
  calm_alternative differ m (Some x) None = calm_err s _
  calm_alternative differ m (Some x) (Some y) = go (eqb x.0 y.0) refl
    where
      go : (b : Bool) → eqb x.0 y.0 ≡ b → Calm s (λ st. unify_alternative u st differ m (Some x) (Some y))
      go true e = rw (e, unify_alternative) (calm_map_err s _ (λ st. u st x.1 y.1) (rec x.1 y.1))
      go false e = rw (e, unify_alternative) (calm_err s _)

  calm_alternatives : (differ : UnionDiff → TyError) (ms : List ℕ) (xs ys : Row) → Calm s (λ st. unify_alternatives u st differ ms xs ys)
  unfolding unify_alternatives
  calm_alternatives differ [] xs ys = calm_ok s
  calm_alternatives differ (m ∷ ms) xs ys =
      calm_then s (λ st. unify_alternative u st differ m (find_key m xs) (find_key m ys)) (λ st. unify_alternatives u st differ ms xs ys)
      (calm_alternative differ m (find_key m xs) (find_key m ys)) (calm_alternatives differ ms xs ys)

  calm_nodes : (c : Kind) (xs : Row) (c' : Kind) (ys : Row) → Calm s (λ st. unify_nodes u st c xs c' ys)
  unfolding unify_nodes unify_union
  calm_nodes Record xs Record ys = calm_record xs ys
  calm_nodes Record xs Union ys = calm_err s _
  calm_nodes Union xs Record ys = calm_err s _
  calm_nodes Union xs Union ys = calm_alternatives _ (discriminants xs ys) xs ys

  calm_heads : (d : ℕ) (a b : Ty) → Calm s (λ st. unify_heads d u st a b)
  unfolding unify_heads
  calm_heads d Error Error = calm_ok s
  calm_heads d Error (leaf q) = calm_ok s
  calm_heads d Error (node c r) = calm_ok s
  calm_heads d Error (Var y) = calm_set s y Error
  calm_heads d (leaf p) Error = calm_ok s
  calm_heads d (node c r) Error = calm_ok s
  calm_heads d (Var x) Error = calm_set s x Error
  calm_heads d (Var x) (Var y) = go (eqb x y) refl
    where
      go : (b : Bool) → eqb x y ≡ b → Calm s (λ st. unify_heads d u st (Var x) (Var y))
      go true e = rw (e, unify_heads) (calm_ok s)
      go false e = rw (e, unify_heads) (calm_bind s d x (Var y))
  calm_heads d (Var x) (leaf q) = calm_bind s d x (leaf q)
  calm_heads d (Var x) (node c r) = calm_bind s d x (node c r)
  calm_heads d (leaf p) (Var y) = calm_bind s d y (leaf p)
  calm_heads d (node c r) (Var y) = calm_bind s d y (node c r)
  calm_heads d (leaf p) (leaf q) = go (Leaf-discrete ℕ_discrete p q) refl
    where
      go : (o : Dec (p ≡ q)) → Leaf-discrete ℕ_discrete p q ≡ o → Calm s (λ st. unify_heads d u st (leaf p) (leaf q))
      go (yes e) j = rw (j, unify_heads) (calm_ok s)
      go (no n) j = rw (j, unify_heads) (calm_err s _)
  calm_heads d (leaf p) (node c r) = calm_err s _
  calm_heads d (node c r) (leaf q) = calm_err s _
  calm_heads d (node c r) (node c' r') = calm_nodes c r c' r'

-- ---- One entry
module _ (d : ℕ) (rec : (s : Subst) (a b : Ty) → Calm s (λ st. unify_in d st a b)) (a b : Ty) where
  -- what an entry does with its sides resolved under s
  inner : Subst → State → Unified
  unfolding unify_in
  inner s st = unify_heads d (λ st' a' b'. unify_in d st' a' b') st (repr s a) (repr s b)

  calm_inner : (s : Subst) → Calm s (inner s)
  unfolding inner
  calm_inner s = calm_heads s (λ st' a' b'. unify_in d st' a' b') (rec s) d (repr s a) (repr s b)

  entry_grows : (st : State) → After (Grown st) (unify_in (suc d) st a b)
  unfolding inner heads_in with_left
  entry_grows st = go st.left refl
    where
      go : (v : ℕ) → st.left ≡ v → After (Grown st) (unify_in (suc d) st a b)
      go zero e = rw (unify_in_spent d st a b e) (omega arith)
      go (suc v) e = rw (unify_in_visit d st v a b e) (note_grows st.subst a b st (heads_in d st v a b) ((calm_inner st.subst).grows (with_left st v)))

  module _ (s : Subst) where
    inside : (st : State) → st.subst ≡ s → (v : ℕ) → heads_in d st v a b ≡ inner s (with_left st v)
    unfolding inner heads_in
    inside st i v = rw i

    entry_quiets : (k : ℕ) → Quiets s k (inner s) → Quiets s (suc k) (λ st. unify_in (suc d) st a b)
    unfolding with_left
    entry_quiets k p st i = go st.left refl
      where
        go : (v : ℕ) → st.left ≡ v → Quiet (suc k) st (unify_in (suc d) st a b)
        go zero e = rw (unify_in_spent d st a b e, ap (λ (v : ℕ). Spent (resting st v st.history)) e) (stops st.history (omega arith))
        go (suc v) e = rw (unify_in_visit d st v a b e, inside st i v) (note_quiet st.subst a b k st v e (inner s (with_left st v)) (p (with_left st v) i))

    ended_ok : (st st' : State) (v : ℕ) → st.subst ≡ s → st.left ≡ suc v → (res : Unified) → inner s (with_left st v) ≡ res
        → note st.subst a b res ≡ Ok st' → length st'.undo ≤ length st.undo
        → (k : ℕ) × (st.left ≡ st'.left + k) × Quiets s k (λ z. unify_in (suc d) z a b)
    unfolding note with_left
    ended_ok st st' v i e (Ok c) q z h =
        let same : resting c c.left (ended st.subst a b true c.subst c.history) ≡ st' = cc z in
        let log : length c.undo ≡ length st'.undo = ap (λ (x : State). length x.undo) same in
        let visits : c.left ≡ st'.left = ap (λ (x : State). x.left) same in
        let P = (calm_inner s).quiet (with_left st v) c i q (omega arith) in
        (suc P.0, omega (arith, P.1), entry_quiets P.0 P.2)
    ended_ok st st' v i e (Err x c) q z h = clash (cc z)
    ended_ok st st' v i e (Spent c) q z h = clash (cc z)

    calm_entry : Calm s (λ st. unify_in (suc d) st a b)
    calm_entry = record { grows = entry_grows; quiet = λ st st' i q h. go st st' i q h st.left refl }
      where
        go : (st st' : State) → st.subst ≡ s → unify_in (suc d) st a b ≡ Ok st' → length st'.undo ≤ length st.undo → (v : ℕ) → st.left ≡ v
            → (k : ℕ) × (st.left ≡ st'.left + k) × Quiets s k (λ z. unify_in (suc d) z a b)
        go st st' i q h zero e = clash (cc (rw (unify_in_spent d st a b e) at q))
        go st st' i q h (suc v) e = ended_ok st st' v i e (inner s (with_left st v)) refl (rw (unify_in_visit d st v a b e, inside st i v) at q) h

pub unify_calm : (d : ℕ) (s : Subst) (a b : Ty) → Calm s (λ st. unify_in d st a b)
unfolding unify_in
unify_calm zero s a b = record { grows = λ st. omega arith; quiet = λ st st' i q h. clash (cc q) }
unify_calm (suc d) s a b = calm_entry d (λ s' a' b'. unify_calm d s' a' b') a b s

-- Two errors cost one visit.
pub errors_quiet : (d : ℕ) (st : State) → st.left ≤ d → Quiet 1 st (unify_in d st Error Error)
unfolding unify_in heads_in unify_heads repr follow note with_left
errors_quiet zero st h = let None : st.left ≡ zero = omega arith in rw (ap (λ (v : ℕ). Spent (resting st v st.history)) None)
    (stops st.history (omega arith))
errors_quiet (suc d) st h = go st.left refl
  where
    go : (v : ℕ) → st.left ≡ v → Quiet 1 st (unify_in (suc d) st Error Error)
    go zero e = rw (unify_in_spent d st Error Error e, ap (λ (v : ℕ). Spent (resting st v st.history)) e) (stops st.history (omega arith))
    go (suc v) e = rw (unify_in_visit d st v Error Error e) (ends v _ (omega arith))
