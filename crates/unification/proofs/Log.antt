-- The undo log. An unknown is bound only while it is free and a node annotated only while it has no type, so every change
-- notes that nothing stood there before, and the log is as long as there are bound unknowns and annotated nodes.
use mathlib.Core.Bool.{Bool, true, false}
use mathlib.Core.List.{List, [], ◌∷◌, ◌++◌}
use mathlib.Core.Path.{◌≡◌, refl, ◌∙◌, ap}
use Prim.Native.Nat.{ℕ, zero, suc, ◌+◌, ◌≤◌, ◌<◌}
use native.Mathlib.Decide.{ℕ_discrete}
use native.Mathlib.Omega.{arith}
use lib.Dec.{eqb}
use lib.ListN.{length, get_or, set, replicate, length-set}
use Rattle.unification.specs.Ty.{Leaf-discrete, Kind, Record, Union, Ty, leaf, node, Var, Error, Row, ε, cell, row_len}
use Rattle.unification.specs.Bindings.{Subst, bound, repr, Answer, yes_left, no_left, spent, occurs, State, with_left}
use Rattle.unification.specs.Bindings.{set_var, annotate, Resolved}
use Rattle.unification.specs.Unify.{UnionDiff, TyError, Unified, Ok, Err, Spent, and_then, map_err, bind_var, find_key, unify_field, unify_fields}
use Rattle.unification.specs.Unify.{unify_record, discriminants, unify_alternative, unify_alternatives, unify_union, unify_nodes, unify_heads, note}
use Rattle.unification.specs.Unify.{unify_in, unify}
use Rattle.unification.specs.Calls.{Side, LeadsTo}
use Rattle.unification.proofs.Tests.{clash}
use Rattle.unification.proofs.Chain.{error_reaches, repr_resolved}
use Rattle.unification.proofs.Occurs.{occurs_no}
use Rattle.unification.specs.Log.{taken, Log}
use Rattle.unification.proofs.Sides.{Parts, Part, find_part, parts_map, Field, Alternative, fields, alternatives, side_follow, wf_bind}
use Rattle.unification.proofs.Kept.{After, heads_in, unify_in_spent, unify_in_visit}
use Rattle.std.specs.Prelude.{None, Option, Some}

-- ---- How many places of a list are taken

pub taken_set : (s : List (Option Ty)) (x : ℕ) (t : Ty) → x < length s → get_or s x None ≡ None → taken (set s x (Some t)) ≡ suc (taken s)
unfolding taken
taken_set [] x t h e = absurd (omega arith)
taken_set (None ∷ s) zero t h e = refl
taken_set (Some u ∷ s) zero t h e = clash (cc)
taken_set (None ∷ s) (suc x) t h e = taken_set s x t (omega arith) e
taken_set (Some u ∷ s) (suc x) t h e = ap suc (taken_set s x t (omega arith) e)

pub taken_pad : (s : List (Option Ty)) (n : ℕ) → taken (s ++ replicate n None) ≡ taken s
unfolding taken
taken_pad [] zero = refl
taken_pad [] (suc n) = taken_pad [] n
taken_pad (None ∷ s) n = taken_pad s n
taken_pad (Some t ∷ s) n = ap suc (taken_pad s n)

pub taken_length : (s : List (Option Ty)) → taken s ≤ length s
unfolding taken
taken_length [] = omega arith
taken_length (None ∷ s) = omega (arith, taken_length s)
taken_length (Some t ∷ s) = omega (arith, taken_length s)

-- A free place leaves room for one more.
pub taken_free : (s : List (Option Ty)) (x : ℕ) → x < length s → get_or s x None ≡ None → taken s < length s
taken_free s x h e = omega (arith, taken_set s x Error h e, taken_length (set s x (Some Error)), length-set s x (Some Error))

-- ---- The log

-- So it never outgrows the unknowns and the nodes.
pub log_room : (st : State) → Log st → length st.undo ≤ length st.subst + length st.tys
log_room st h = omega (arith, h.exact, taken_length st.subst, taken_length st.tys)

-- Before a free unknown is bound, or a node without a type annotated, there is room for the entry.
pub log_room_unknown : (st : State) (x : ℕ) → x < length st.subst → bound st.subst x ≡ None → Log st
    → length st.undo < length st.subst + length st.tys
unfolding bound
log_room_unknown st x h free l = omega (arith, l.exact, taken_free st.subst x h free, taken_length st.tys)

pub log_room_node : (st : State) (n : ℕ) → n < length st.tys → get_or st.tys n None ≡ None → Log st
    → length st.undo < length st.subst + length st.tys
log_room_node st n h free l = omega (arith, l.exact, taken_free st.tys n h free, taken_length st.subst)

pub log_annotate : (st : State) (n : ℕ) (t : Ty) → n < length st.tys → get_or st.tys n None ≡ None → Log st → Log (annotate st n t)
unfolding annotate
log_annotate st n t h free l = record { wf = l.wf; blank = (free, l.blank); exact = omega (arith, l.exact, taken_set st.tys n t h free) }

-- ---- Every unification keeps it

-- It holds of this state, and the unknowns are n.
pub record Logged (n : ℕ) (st : State) : Type 0 where
  pub log : Log st
  pub len : length st.subst ≡ n

pub logged_left : (n : ℕ) (st : State) (v : ℕ) → Logged n st → Logged n (with_left st v)
unfolding with_left
logged_left n st v h = record { log = record { wf = h.log.wf; blank = h.log.blank; exact = h.log.exact }; len = h.len }

pub logged_set_var : (n : ℕ) (st : State) (x : ℕ) (t : Ty) → bound st.subst x ≡ None → x < n → Side n t → ¬ LeadsTo st.subst t (Var x)
    → Logged n st → Logged n (set_var st x t)
unfolding set_var bound
logged_set_var n st x t free lt side off h =
    let side' : Side (length st.subst) t = rw h.len side in
    let lt' : x < length st.subst = omega (arith, h.len) in
    record {
      log = record {
        wf = wf_bind st.subst x t lt' side' off h.log.wf;
        blank = (free, h.log.blank);
        exact = omega (arith, h.log.exact, taken_set st.subst x t lt' free);
      };
      len = length-set st.subst x (Some t) ∙ h.len;
    }

module _ (n : ℕ) where
  pub logged_then : (res : Unified) (f : State → Unified) → After (Logged n) res → ((b : State) → Logged n b → After (Logged n) (f b))
      → After (Logged n) (and_then res f)
  unfolding and_then
  logged_then (Ok b) f p q = q b p
  logged_then (Err e b) f p q = p
  logged_then (Spent b) f p q = p

  pub logged_map_err : (e : TyError) (res : Unified) → After (Logged n) res → After (Logged n) (map_err e res)
  unfolding map_err
  logged_map_err e (Ok b) p = p
  logged_map_err e (Err e' b) p = p
  logged_map_err e (Spent b) p = p

  pub logged_note : (s : Subst) (a b : Ty) (res : Unified) → After (Logged n) res → After (Logged n) (note s a b res)
  unfolding note
  logged_note s a b (Ok c) p = record { log = record { wf = p.log.wf; blank = p.log.blank; exact = p.log.exact }; len = p.len }
  logged_note s a b (Err e c) p = record { log = record { wf = p.log.wf; blank = p.log.blank; exact = p.log.exact }; len = p.len }
  logged_note s a b (Spent c) p = p

  pub logged_bind_var : (d : ℕ) (st : State) (x : ℕ) (t : Ty) → bound st.subst x ≡ None → x < n → Side n t → Logged n st → After (Logged n) (bind_var d st x t)
  unfolding bind_var with_left
  logged_bind_var d st x t free lt side h = go (occurs d st.subst x st.left t) refl
    where
      go : (o : Answer) → occurs d st.subst x st.left t ≡ o → After (Logged n) (bind_var d st x t)
      go (yes_left v) e = rw (e, bind_var) (logged_left n st v h)
      go (no_left v) e = rw (e, bind_var) (logged_set_var n (with_left st v) x t free lt side
          (occurs_no st.subst x free h.log.wf.acyclic d st.left t v e) (logged_left n st v h))
      go spent e = rw (e, bind_var) (logged_left n st zero h)

  abbrev pub Keeping : (State → Ty → Ty → Unified) → Type 0
  Keeping u = (st : State) (a b : Ty) → Side n a → Side n b → Logged n st → After (Logged n) (u st a b)

  module _ (u : State → Ty → Ty → Unified) (rec : Keeping u) where
    pub logged_fields : (st : State) (xs ys : Row) → Parts (Alternative n) xs → Parts (Alternative n) ys → Logged n st
        → After (Logged n) (unify_fields u st xs ys)
    unfolding unify_fields unify_field
    logged_fields st ε ys f g h = h
    logged_fields st (cell k l x xs) ys f g h = logged_then (unify_field u st k x (find_key k ys)) _
        (field (find_key k ys) (find_part (Alternative n) k ys g)) (λ b i. logged_fields b xs ys f.1 g i)
      where
        field : (o : Option (ℕ × Ty)) → Part (Alternative n) o → After (Logged n) (unify_field u st k x o)
        field None p = h
        field (Some y) p = rec st x y.1 f.0 p h

    pub logged_record : (st : State) (xs ys : Row) → Parts (Alternative n) xs → Parts (Alternative n) ys → Logged n st
        → After (Logged n) (unify_record u st xs ys)
    unfolding unify_record
    logged_record st xs ys f g h = go (eqb (row_len xs) (row_len ys)) refl
      where
        go : (b : Bool) → eqb (row_len xs) (row_len ys) ≡ b → After (Logged n) (unify_record u st xs ys)
        go true q = rw (q, unify_record) (logged_fields st xs ys f g h)
        go false q = rw (q, unify_record) h

    pub logged_alternative : (st : State) (differ : UnionDiff → TyError) (k : ℕ) (o o' : Option (ℕ × Ty)) → Part (Alternative n) o
        → Part (Alternative n) o' → Logged n st → After (Logged n) (unify_alternative u st differ k o o')
    unfolding unify_alternative
    logged_alternative st differ k None None f g h = h
    logged_alternative st differ k None (Some y) f g h = h
    logged_alternative st differ k (Some x) None f g h = h
    logged_alternative st differ k (Some x) (Some y) f g h = go (eqb x.0 y.0) refl
      where
        go : (b : Bool) → eqb x.0 y.0 ≡ b → After (Logged n) (unify_alternative u st differ k (Some x) (Some y))
        go true q = rw (q, unify_alternative) (logged_map_err _ (u st x.1 y.1) (rec st x.1 y.1 f g h))
        go false q = rw (q, unify_alternative) h

    pub logged_alternatives : (st : State) (differ : UnionDiff → TyError) (ks : List ℕ) (xs ys : Row) → Parts (Alternative n) xs
        → Parts (Alternative n) ys → Logged n st → After (Logged n) (unify_alternatives u st differ ks xs ys)
    unfolding unify_alternatives
    logged_alternatives st differ [] xs ys f g h = h
    logged_alternatives st differ (k ∷ ks) xs ys f g h =
        logged_then (unify_alternative u st differ k (find_key k xs) (find_key k ys)) _
        (logged_alternative st differ k (find_key k xs) (find_key k ys) (find_part (Alternative n) k xs f) (find_part (Alternative n) k ys g) h)
        (λ b i. logged_alternatives b differ ks xs ys f g i)

    pub logged_nodes : (st : State) (k : Kind) (xs : Row) (k' : Kind) (ys : Row) → Side n (node k xs) → Side n (node k' ys) → Logged n st
        → After (Logged n) (unify_nodes u st k xs k' ys)
    unfolding unify_nodes unify_union
    logged_nodes st Record xs Record ys f g h =
        let part = parts_map (Field n) (Alternative n) (λ l t p. p.1) in
        logged_record st xs ys (part xs (fields n xs f)) (part ys (fields n ys g)) h
    logged_nodes st Record xs Union ys f g h = h
    logged_nodes st Union xs Record ys f g h = h
    logged_nodes st Union xs Union ys f g h = logged_alternatives st _ (discriminants xs ys) xs ys (alternatives n xs f.1) (alternatives n ys g.1) h

    pub logged_heads : (d : ℕ) (st : State) (a b : Ty) → Resolved st.subst a → Resolved st.subst b → Side n a → Side n b → Logged n st
        → After (Logged n) (unify_heads d u st a b)
    unfolding unify_heads
    logged_heads d st Error Error e f i j h = h
    logged_heads d st Error (leaf q) e f i j h = h
    logged_heads d st Error (node k r) e f i j h = h
    logged_heads d st Error (Var y) e f i j h = logged_set_var n st y Error f j tt (error_reaches st.subst y) h
    logged_heads d st (leaf p) Error e f i j h = h
    logged_heads d st (node k r) Error e f i j h = h
    logged_heads d st (Var x) Error e f i j h = logged_set_var n st x Error e i tt (error_reaches st.subst x) h
    logged_heads d st (Var x) (Var y) e f i j h = go (eqb x y) refl
      where
        go : (b : Bool) → eqb x y ≡ b → After (Logged n) (unify_heads d u st (Var x) (Var y))
        go true q = rw (q, unify_heads) h
        go false q = rw (q, unify_heads) (logged_bind_var d st x (Var y) e i j h)
    logged_heads d st (Var x) (leaf q) e f i j h = logged_bind_var d st x (leaf q) e i j h
    logged_heads d st (Var x) (node k r) e f i j h = logged_bind_var d st x (node k r) e i j h
    logged_heads d st (leaf p) (Var y) e f i j h = logged_bind_var d st y (leaf p) f j i h
    logged_heads d st (node k r) (Var y) e f i j h = logged_bind_var d st y (node k r) f j i h
    logged_heads d st (leaf p) (leaf q) e f i j h = go (Leaf-discrete ℕ_discrete p q) refl
      where
        go : (o : Dec (p ≡ q)) → Leaf-discrete ℕ_discrete p q ≡ o → After (Logged n) (unify_heads d u st (leaf p) (leaf q))
        go (yes r) o = rw (o, unify_heads) h
        go (no r) o = rw (o, unify_heads) h
    logged_heads d st (leaf p) (node k r) e f i j h = h
    logged_heads d st (node k r) (leaf q) e f i j h = h
    logged_heads d st (node k r) (node k' r') e f i j h = logged_nodes st k r k' r' i j h

  -- Resolving keeps a side a side.
  pub side_repr : (st : State) (a : Ty) → Logged n st → Side n a → Side n (repr st.subst a)
  unfolding repr
  side_repr st a h i = rw (← h.len) (side_follow (suc (length st.subst)) st.subst a h.log.wf (rw h.len i))

  pub unify_in_logged : (d : ℕ) → Keeping (unify_in d)
  unfolding unify_in heads_in with_left
  unify_in_logged zero st a b i j h = h
  unify_in_logged (suc d) st a b i j h = go st.left refl (λ st' a' b'. unify_in_logged d st' a' b')
    where
      go : (v : ℕ) → st.left ≡ v → Keeping (λ st' a' b'. unify_in d st' a' b') → After (Logged n) (unify_in (suc d) st a b)
      go zero e ih = rw (unify_in_spent d st a b e) h
      go (suc v) e ih =
          rw (unify_in_visit d st v a b e) (logged_note st.subst a b (heads_in d st v a b)
          (logged_heads (λ st' a' b'. unify_in d st' a' b') ih d (with_left st v) (repr st.subst a) (repr st.subst b)
          (repr_resolved st.subst h.log.wf.acyclic a) (repr_resolved st.subst h.log.wf.acyclic b) (side_repr st a h i)
          (side_repr st b h j) (logged_left n st v h)))

pub unify_logged : (st : State) (a b : Ty) → Side (length st.subst) a → Side (length st.subst) b → Log st
    → After (Logged (length st.subst)) (unify st a b)
unfolding unify
unify_logged st a b i j l = unify_in_logged (length st.subst) st.left st a b i j (record { log = l; len = refl })
