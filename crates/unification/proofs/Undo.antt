-- Taking changes back. Each change notes what stood there before it, so the newest changes taken back in order give the
-- earlier state, and unknowns made since stay behind, free. `Since` says this of a stretch of a run, over any padding with
-- free unknowns, so that stretches join.
use mathlib.Core.List.{List, [], ◌∷◌, ◌++◌, append_assoc, append-nil}
use mathlib.Core.Path.{◌≡◌, refl, sym, ◌∙◌, ap}
use Prim.Native.Nat.{ℕ, zero, suc, ◌+◌, ◌-◌, ◌≤◌}
use native.Mathlib.Nat.{zero-add, add-zero, add_assoc}
use native.Mathlib.Omega.{arith}
use lib.ListN.{length, get_or, take, drop, set, replicate, length-append, length-set, length-replicate, replicate-append-replicate}
use lib.Seq.{set-set, set-get_or, take_at, drop_at}
use Rattle.unification.specs.Ty.{Ty}
use Rattle.unification.specs.Bindings.{Subst, bound, Undo, Binding, Annotation, History, State, with_left, with_history, fresh, set_var, annotate}
use Rattle.unification.specs.Bindings.{snapshot, revert, rewind, rollback}
use Rattle.std.specs.Prelude.{None, Option, Some}

-- Changes of bindings taken back, newest first, and those of annotations.
unfoldable pub unbind : List Undo → Subst → Subst
unbind [] s = s
unbind (Binding x prev ∷ us) s = unbind us (set s x prev)
unbind (Annotation n prev ∷ us) s = unbind us s

unfoldable pub unannotate : List Undo → List (Option Ty) → List (Option Ty)
unannotate [] ts = ts
unannotate (Binding x prev ∷ us) ts = unannotate us ts
unannotate (Annotation n prev ∷ us) ts = unannotate us (set ts n prev)

unbind_append : (a b : List Undo) (s : Subst) → unbind (a ++ b) s ≡ unbind b (unbind a s)
unfolding unbind
unbind_append [] b s = refl
unbind_append (Binding x prev ∷ a) b s = unbind_append a b (set s x prev)
unbind_append (Annotation n prev ∷ a) b s = unbind_append a b s

unannotate_append : (a b : List Undo) (ts : List (Option Ty)) → unannotate (a ++ b) ts ≡ unannotate b (unannotate a ts)
unfolding unannotate
unannotate_append [] b ts = refl
unannotate_append (Binding x prev ∷ a) b ts = unannotate_append a b ts
unannotate_append (Annotation n prev ∷ a) b ts = unannotate_append a b (set ts n prev)

pub unbind_length : (us : List Undo) (s : Subst) → length (unbind us s) ≡ length s
unfolding unbind
unbind_length [] s = refl
unbind_length (Binding x prev ∷ us) s = unbind_length us (set s x prev) ∙ length-set s x prev
unbind_length (Annotation n prev ∷ us) s = unbind_length us s

-- ---- What `rewind` does to each part of the state
pub rewind_subst : (k : ℕ) (us : List Undo) (st : State) → (rewind k us st).subst ≡ unbind (take k us) st.subst
unfolding rewind unbind revert
rewind_subst zero us st = refl
rewind_subst (suc k) [] st = refl
rewind_subst (suc k) (Binding x prev ∷ us) st = rewind_subst k us (revert (Binding x prev) st)
rewind_subst (suc k) (Annotation n prev ∷ us) st = rewind_subst k us (revert (Annotation n prev) st)

rewind_tys : (k : ℕ) (us : List Undo) (st : State) → (rewind k us st).tys ≡ unannotate (take k us) st.tys
unfolding rewind unannotate revert
rewind_tys zero us st = refl
rewind_tys (suc k) [] st = refl
rewind_tys (suc k) (Binding x prev ∷ us) st = rewind_tys k us (revert (Binding x prev) st)
rewind_tys (suc k) (Annotation n prev ∷ us) st = rewind_tys k us (revert (Annotation n prev) st)

rewind_undo : (k : ℕ) (us : List Undo) (st : State) → (rewind k us st).undo ≡ drop k us
unfolding rewind revert
rewind_undo zero us st = refl
rewind_undo (suc k) [] st = refl
rewind_undo (suc k) (Binding x prev ∷ us) st = rewind_undo k us (revert (Binding x prev) st)
rewind_undo (suc k) (Annotation n prev ∷ us) st = rewind_undo k us (revert (Annotation n prev) st)

pub rewind_left : (k : ℕ) (us : List Undo) (st : State) → (rewind k us st).left ≡ st.left
unfolding rewind revert
rewind_left zero us st = refl
rewind_left (suc k) [] st = refl
rewind_left (suc k) (Binding x prev ∷ us) st = rewind_left k us (revert (Binding x prev) st)
rewind_left (suc k) (Annotation n prev ∷ us) st = rewind_left k us (revert (Annotation n prev) st)

pub rewind_nodes : (k : ℕ) (us : List Undo) (st : State) → length (rewind k us st).tys ≡ length st.tys
unfolding rewind revert
rewind_nodes zero us st = refl
rewind_nodes (suc k) [] st = refl
rewind_nodes (suc k) (Binding x prev ∷ us) st = rewind_nodes k us (revert (Binding x prev) st)
rewind_nodes (suc k) (Annotation n prev ∷ us) st = rewind_nodes k us (revert (Annotation n prev) st) ∙ length-set st.tys n prev

-- ---- Stretches of a run

-- From the first state to the second, in which n unknowns were made: the log has grown by `new`, and taking that back gives
-- the first state's bindings and annotations.
pub record Since (n : ℕ) (st₀ st : State) : Type 0 where
  pub new : List Undo
  pub undo : st.undo ≡ new ++ st₀.undo
  pub subst : (k : ℕ) → unbind new (st.subst ++ replicate k None) ≡ st₀.subst ++ replicate (n + k) None
  pub tys : unannotate new st.tys ≡ st₀.tys
  pub left : st.left ≤ st₀.left

pub since_refl : (st : State) → Since 0 st st
unfolding unbind unannotate
since_refl st = record { new = []; undo = refl; subst = λ k. rw (zero-add k); tys = refl; left = omega arith }

pub since_trans : {n m : ℕ} {a b c : State} → Since n a b → Since m b c → Since (n + m) a c
since_trans {n} {m} {a} {b} {c} p q = record {
  new = q.new ++ p.new;
  undo = q.undo ∙ ap {B = List Undo} (λ us. q.new ++ us) p.undo ∙ sym (append_assoc q.new p.new a.undo);
  subst = λ k. unbind_append q.new p.new (c.subst ++ replicate k None) ∙ ap (unbind p.new) (q.subst k) ∙ p.subst (m + k) ∙ ap {B = Subst}
      (λ j. a.subst ++ replicate j None) (sym (add_assoc n m k));
  tys = unannotate_append q.new p.new c.tys ∙ ap (unannotate p.new) q.tys ∙ p.tys;
  left = omega (arith, p.left, q.left);
}

pub since_length : {n : ℕ} {st₀ st : State} → Since n st₀ st → length st.subst ≡ length st₀.subst + n
since_length {n} {st₀} {st} p =
    let e : length (st.subst ++ replicate 0 None) ≡ length (st₀.subst ++ replicate (n + 0) None) = sym (unbind_length p.new _) ∙ ap length (p.subst 0) in
    omega (
      arith,
      length-append st.subst (replicate 0 None),
      length-append st₀.subst (replicate (n + 0) None),
      length-replicate {A = Option Ty} (n + 0) None,
    )

pub since_history : {n : ℕ} {st₀ st : State} (h : History) → Since n st₀ st → Since n st₀ (with_history st h)
unfolding with_history
since_history h p = record { new = p.new; undo = p.undo; subst = p.subst; tys = p.tys; left = p.left }

-- ---- Each call is such a stretch

-- Giving a place back what stood there, over free unknowns made since.
set_back : (s : Subst) (x k : ℕ) (o : Option Ty) → set (set s x o ++ replicate k None) x (get_or s x None) ≡ s ++ replicate k None
set_back [] x k o = free k x
  where
    free : (k x : ℕ) → set (replicate k None) x None ≡ replicate {A = Option Ty} k None
    free zero x = refl
    free (suc k) zero = refl
    free (suc k) (suc x) = ap {B = Subst} (λ r. None ∷ r) (free k x)
set_back (a ∷ s) zero k o = refl
set_back (a ∷ s) (suc x) k o = ap {B = Subst} (λ r. a ∷ r) (set_back s x k o)

pub since_set_var : (st : State) (x : ℕ) (t : Ty) → Since 0 st (set_var st x t)
unfolding set_var unbind unannotate bound
since_set_var st x t = record {
  new = Binding x (bound st.subst x) ∷ [];
  undo = refl;
  subst = λ k. rw (zero-add k) (set_back st.subst x k (Some t));
  tys = refl;
  left = omega arith;
}

pub since_annotate : (st : State) (n : ℕ) (t : Ty) → Since 0 st (annotate st n t)
unfolding annotate unbind unannotate
since_annotate st n t = record {
  new = Annotation n (get_or st.tys n None) ∷ [];
  undo = refl;
  subst = λ k. rw (zero-add k);
  tys = set-set st.tys n (Some t) (get_or st.tys n None) ∙ set-get_or st.tys n None;
  left = omega arith;
}

pub since_fresh : (st : State) → Since 1 st (fresh st)
unfolding fresh unbind unannotate
since_fresh st = record {
  new = [];
  undo = refl;
  subst = λ k. append_assoc st.subst (None ∷ []) (replicate k None) ∙ ap {B = Subst} (λ r. st.subst ++ r) (replicate-append-replicate 1 k None);
  tys = refl;
  left = omega arith;
}

pub since_left : (st : State) (v : ℕ) → v ≤ st.left → Since 0 st (with_left st v)
unfolding with_left unbind unannotate
since_left st v le = record { new = []; undo = refl; subst = λ k. rw (zero-add k); tys = refl; left = le }

-- ---- `rollback` to the start of a stretch
module _ {n : ℕ} {st₀ st : State} (p : Since n st₀ st) where
  steps : length st.undo - length st₀.undo ≡ length p.new
  steps = omega (arith, ap length p.undo, length-append p.new st₀.undo)

  newest : take (length st.undo - length st₀.undo) st.undo ≡ p.new
  newest = rw (steps, p.undo) (take_at p.new st₀.undo (length p.new) refl)

  oldest : drop (length st.undo - length st₀.undo) st.undo ≡ st₀.undo
  oldest = rw (steps, p.undo) (drop_at p.new st₀.undo (length p.new) refl)

  unbound : unbind p.new st.subst ≡ st₀.subst ++ replicate n None
  unbound = rw (append-nil, add-zero) at (p.subst 0)

  pub rollback_subst : (rollback st (snapshot st₀)).subst ≡ st₀.subst ++ replicate n None
  unfolding rollback snapshot with_history
  rollback_subst = rewind_subst (length st.undo - length st₀.undo) st.undo st ∙ ap (λ us. unbind us st.subst) newest ∙ unbound

  pub rollback_tys : (rollback st (snapshot st₀)).tys ≡ st₀.tys
  unfolding rollback snapshot with_history
  rollback_tys = rewind_tys (length st.undo - length st₀.undo) st.undo st ∙ ap (λ us. unannotate us st.tys) newest ∙ p.tys

  pub rollback_undo : (rollback st (snapshot st₀)).undo ≡ st₀.undo
  unfolding rollback snapshot with_history
  rollback_undo = rewind_undo (length st.undo - length st₀.undo) st.undo st ∙ oldest

  pub rollback_left : (rollback st (snapshot st₀)).left ≡ st.left
  unfolding rollback snapshot with_history
  rollback_left = rewind_left (length st.undo - length st₀.undo) st.undo st
