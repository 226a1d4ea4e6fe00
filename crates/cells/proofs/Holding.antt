-- The words stand for the state after `set_var`, `annotate`, `fresh_var_id` and after one entry of the log is taken
-- back. Binding a free unknown to a type that does not reach it, and freeing one, keep bindings without a loop.
use mathlib.Core.Bool.{Bool, true, false}
use mathlib.Core.List.{List, [], ◌∷◌, ◌++◌}
use mathlib.Core.Logic.{◌≢◌, by_cases}
use mathlib.Core.Path.{◌≡◌, refl, sym, ◌∙◌, ap}
use Prim.Native.Nat.{ℕ, zero, suc, ◌+◌, ◌*◌, ◌<◌, ◌≤◌}
use native.Mathlib.Decide.{ℕ_discrete}
use native.Mathlib.Omega.{arith}
use lib.Dec.{ltb}
use lib.ListN.{length, get_or, set, length-set, length-append}
use lib.Seq.{get_or-set_same, get_or-set_other}
use borrow.Author.Tests.{lt-ltb, le-ltb, ltb-true, ltb-false}
use Rattle.unification.specs.Ty as Tree
use Rattle.unification.specs.Bindings as Bindings
use Rattle.unification.specs.Bindings.{bound, Undo, Binding, Annotation, History, State, with_left, with_history}
use Rattle.unification.specs.Calls.{LeadsTo}
use Rattle.unification.specs.Acyclic.{Acyclic}
use Rattle.unification.proofs.Acyclic.{acyclic_among, acyclic_bind}
use Rattle.unification.proofs.Chain.{unset, unset_acyclic}
use Rattle.work.specs.Layout.{RECORD-COUNT, UNKNOWNS, TYS, UNDO-LEN, BINDINGS, UNDO, END}
use Rattle.cells.specs.declared.Ty.{Ty}
use Rattle.cells.specs.Words.{pick, slot_w, bound_w, put_ty, push_undo_w, set_var_w, annotate_w, fresh_w}
use Rattle.cells.specs.Stands.{Rows, tree, bound_tree, Ok, OkBound, undo_of, Logged, Holds, Keeps}
use Rattle.cells.proofs.Frame.{keeps_refl, keeps_trans, keeps_set, keeps_pick, keeps_wider, SameCells, ok_bound_same, cells_same, slot_same, undo_same}
use Rattle.cells.proofs.Logged.{logged_bind, logged_annotate, room_to_bind, room_to_annotate, Unbound, Unannotated, get_d_end, logged_fresh}
use Rattle.cells.proofs.State.{entry_binding, entry_annotation, put_keeps, push_keeps, Change, binding_slot, type_slot, set_change, set_undo}
use Rattle.cells.proofs.State.{pop_change, pop_undo, slot_free, cells, binds_other, types_other, binds_at, types_at}
use Rattle.std.specs.Prelude.{None, Option, Some}

-- ---- Visits and history are in no word
module _ {w : List ℕ} {T : Rows} {st : State} (H : Holds w T st) where
  holds_beside : (v : ℕ) (h : History) → Holds w T (record st { left = v; history = h })
  holds_beside v h = record {
    long = H.long;
    cells = H.cells;
    binds = H.binds;
    types = H.types;
    undo = H.undo;
    logged = H.logged;
    acyclic = H.acyclic;
    few_unknowns = H.few_unknowns;
    few_nodes = H.few_nodes;
  }

  pub holds_left : (v : ℕ) → Holds w T (with_left st v)
  unfolding with_left
  holds_left v = holds_beside v st.history

  pub holds_history : (h : History) → Holds w T (with_history st h)
  unfolding with_history
  holds_history h = holds_beside st.left h

pub undo_length : (w : List ℕ) (n : ℕ) → length (undo_of w n) ≡ n
unfolding undo_of
undo_length w zero = refl
undo_length w (suc n) = ap suc (undo_length w n)

pub holds_log : {w : List ℕ} {T : Rows} {st : State} → Holds w T st → get_or w UNDO-LEN 0 ≡ length st.undo
holds_log {w} {T} {st} H = sym (ap (λ (us : List Undo). length us) H.undo ∙ undo_length w (get_or w UNDO-LEN 0))

-- ---- One slot changed
module _ {w w' : List ℕ} {T : Rows} {st : State} {b : Option Ty} (H : Holds w T st) (o : OkBound w b) (us : List Undo) (v : ℕ) (h : History)
    (undo : us ≡ undo_of w' (get_or w' UNDO-LEN 0)) where
  binding_changed : {x : ℕ} → Change w w' (BINDINGS + 2 * x) b → x < length st.subst → Logged us (set st.subst x (bound_tree T b)) st.tys
      → Acyclic (set st.subst x (bound_tree T b))
      → Holds w' T (record { subst = set st.subst x (bound_tree T b); tys = st.tys; undo = us; left = v; history = h })
  binding_changed {x} c lt l A = record {
    long = omega (arith, c.keeps.long, H.long);
    cells = cells_same (cells c) H.cells;
    binds = binds_at c o lt H.few_unknowns H.binds;
    types = types_other c (omega arith) H.few_nodes H.types;
    undo = undo;
    logged = l;
    acyclic = A;
    few_unknowns = omega (arith, length-set st.subst x (bound_tree T b), H.few_unknowns);
    few_nodes = H.few_nodes;
  }

  type_changed : {n : ℕ} → Change w w' (TYS + 2 * n) b → n < length st.tys → Logged us st.subst (set st.tys n (bound_tree T b))
      → Holds w' T (record { subst = st.subst; tys = set st.tys n (bound_tree T b); undo = us; left = v; history = h })
  type_changed {n} c lt l = record {
    long = omega (arith, c.keeps.long, H.long);
    cells = cells_same (cells c) H.cells;
    binds = binds_other c (omega (arith, H.few_nodes)) H.few_unknowns H.binds;
    types = types_at c o lt H.few_nodes H.types;
    undo = undo;
    logged = l;
    acyclic = H.acyclic;
    few_unknowns = H.few_unknowns;
    few_nodes = omega (arith, length-set st.tys n (bound_tree T b), H.few_nodes);
  }

-- ---- `set_var`
pub set_var_keeps : (w : List ℕ) (x : ℕ) (t : Ty) → Keeps UNDO-LEN END w (set_var_w w x t)
unfolding set_var_w
set_var_keeps w x t = go (ltb x 512) refl
  where
    go : (b : Bool) → ltb x 512 ≡ b → Keeps UNDO-LEN END w (pick b (push_undo_w (put_ty w (BINDINGS + 2 * x) t) x) w)
    go true q =
        let h = ltb-true x 512 q in
        keeps_trans (put_keeps w (BINDINGS + 2 * x) t (omega arith) (omega arith)) (push_keeps (put_ty w (BINDINGS + 2 * x) t) x)
    go false q = keeps_refl

module _ {w : List ℕ} {T : Rows} {st : State} (H : Holds w T st) (x : ℕ) (t : Ty) (lt : x < length st.subst) (free : bound st.subst x ≡ None)
    (o : Ok w t) where
  set_var_is : set_var_w w x t ≡ push_undo_w (put_ty w (BINDINGS + 2 * x) t) x
  unfolding set_var_w
  set_var_is = rw (lt-ltb x 512 (omega (arith, H.few_unknowns)))

  pub set_var_holds : ¬ LeadsTo st.subst (tree T t) (Tree.Var x) → Holds (set_var_w w x t) T (Bindings.set_var st x (tree T t))
  unfolding Bindings.set_var bound
  set_var_holds away =
      let room : get_or w UNDO-LEN 0 < 1024 = omega (arith, room_to_bind H.logged (tree T t) x lt free, holds_log H, H.few_unknowns, H.few_nodes) in
      let at = BINDINGS + 2 * x in
      let slot = binding_slot x (omega (arith, H.few_unknowns)) in
      let w' = push_undo_w (put_ty w at t) x in
      let undo : Binding x None ∷ st.undo ≡ undo_of w' (get_or w' UNDO-LEN 0) =
      sym (set_undo w H.long at slot t x room ∙ rw (entry_binding x (omega (arith, H.few_unknowns)), ← H.undo)) in
      rw (set_var_is, free)
      (binding_changed {b = Some t} H o (Binding x None ∷ st.undo) st.left st.history undo
      (set_change w H.long at slot t x room) lt
      (logged_bind H.logged (tree T t) x lt free) (acyclic_bind st.subst x (tree T t) lt away H.acyclic))

-- ---- `annotate`
pub annotate_keeps : (w : List ℕ) (n : ℕ) (t : Ty) → Keeps TYS END w (annotate_w w n t)
unfolding annotate_w
annotate_keeps w n t = go (ltb n 512) refl
  where
    go : (b : Bool) → ltb n 512 ≡ b → Keeps TYS END w (pick b (push_undo_w (put_ty w (TYS + 2 * n) t) (n + 65536)) w)
    go true q =
        let h = ltb-true n 512 q in
        keeps_trans (put_keeps w (TYS + 2 * n) t (omega arith) (omega arith))
        (keeps_wider (omega arith) (omega arith) (push_keeps (put_ty w (TYS + 2 * n) t) (n + 65536)))
    go false q = keeps_refl

module _ {w : List ℕ} {T : Rows} {st : State} (H : Holds w T st) (n : ℕ) (t : Ty) (lt : n < length st.tys) (free : get_or st.tys n None ≡ None)
    (o : Ok w t) where
  annotate_is : annotate_w w n t ≡ push_undo_w (put_ty w (TYS + 2 * n) t) (n + 65536)
  unfolding annotate_w
  annotate_is = rw (lt-ltb n 512 (omega (arith, H.few_nodes)))

  pub annotate_holds : Holds (annotate_w w n t) T (Bindings.annotate st n (tree T t))
  unfolding Bindings.annotate
  annotate_holds =
      let room : get_or w UNDO-LEN 0 < 1024 = omega (arith, room_to_annotate H.logged (tree T t) n lt free, holds_log H, H.few_unknowns, H.few_nodes) in
      let at = TYS + 2 * n in
      let slot = type_slot n (omega (arith, H.few_nodes)) in
      let w' = push_undo_w (put_ty w at t) (n + 65536) in
      let undo : Annotation n None ∷ st.undo ≡ undo_of w' (get_or w' UNDO-LEN 0) =
      sym (set_undo w H.long at slot t (n + 65536) room ∙ rw (entry_annotation n, ← H.undo)) in
      rw (annotate_is, free)
      (type_changed {b = Some t} H o (Annotation n None ∷ st.undo) st.left st.history undo
      (set_change w H.long at slot t (n + 65536) room) lt
      (logged_annotate H.logged (tree T t) n lt free))

-- ---- `fresh_var_id`

-- Whatever the words are.
pub fresh_keeps : (w : List ℕ) → Keeps RECORD-COUNT END w (fresh_w w)
unfolding fresh_w
fresh_keeps w = keeps_pick (ltb (get_or w UNKNOWNS 0) 512)
    (λ q.
    let h = ltb-true (get_or w UNKNOWNS 0) 512 q in
    let at = BINDINGS + 2 * get_or w UNKNOWNS 0 in
    keeps_trans (keeps_set w at 0 (omega arith) (omega arith)) (keeps_set (set w at 0) UNKNOWNS (get_or w UNKNOWNS 0 + 1) (omega arith) (omega arith)))
    (λ q. keeps_refl)

module _ {w : List ℕ} {T : Rows} {st : State} (H : Holds w T st) (few : length st.subst < 512) where
  abbrev next : ℕ
  next = get_or w UNKNOWNS 0

  next_few : next < 512
  next_few = omega (arith, H.binds.unknowns)

  fresh_is : fresh_w w ≡ set (set w (BINDINGS + 2 * next) 0) UNKNOWNS (next + 1)
  unfolding fresh_w
  fresh_is = rw (lt-ltb next 512 next_few)

  pub fresh_other : (i : ℕ) → i ≢ UNKNOWNS → i ≢ BINDINGS + 2 * next → get_or (fresh_w w) i 0 ≡ get_or w i 0
  fresh_other i n m =
      rw fresh_is (get_or-set_other (set w (BINDINGS + 2 * next) 0) UNKNOWNS i (next + 1) 0 n ∙ get_or-set_other w (BINDINGS + 2 * next) i 0 0 m)

  pub fresh_length : length (fresh_w w) ≡ length w
  fresh_length = rw fresh_is (simp length-set)

  pub fresh_unknowns : get_or (fresh_w w) UNKNOWNS 0 ≡ next + 1
  fresh_unknowns = rw fresh_is (get_or-set_same (set w (BINDINGS + 2 * next) 0) UNKNOWNS (next + 1) 0
      (omega (arith, H.long, length-set w (BINDINGS + 2 * next) 0)))

  fresh_free : slot_w (fresh_w w) (BINDINGS + 2 * next) ≡ None
  fresh_free = slot_free (fresh_w w) (BINDINGS + 2 * next) (rw fresh_is
      (get_or-set_other (set w (BINDINGS + 2 * next) 0) UNKNOWNS (BINDINGS + 2 * next) (next + 1) 0 (λ q. omega arith)
      ∙ get_or-set_same w (BINDINGS + 2 * next) 0 0 (omega (arith, H.long, next_few))))

  pub fresh_cells : SameCells w (fresh_w w)
  fresh_cells = record {
    said = λ i h. fresh_other i (λ q. omega arith) (λ q. omega arith);
    made = λ i lo hi. fresh_other i (λ q. omega arith) (λ q. omega arith);
    unknowns = omega (arith, fresh_unknowns);
  }

  old_bound : (x : ℕ) → x < next → bound_w (fresh_w w) x ≡ bound_w w x
  unfolding bound_w
  old_bound x h = rw (fresh_unknowns, lt-ltb x (next + 1) (omega arith), lt-ltb x next h)
      (slot_same w (fresh_w w) (BINDINGS + 2 * x) (fresh_other (BINDINGS + 2 * x) (λ q. omega arith) (λ q. omega arith))
      (fresh_other (BINDINGS + 2 * x + 1) (λ q. omega arith) (λ q. omega arith)))

  new_bound : (x : ℕ) → next ≤ x → bound_w (fresh_w w) x ≡ None
  unfolding bound_w
  new_bound x h = rw fresh_unknowns (by_cases (ℕ_discrete x next)
      (λ e. rw (e, lt-ltb next (next + 1) (omega arith)) fresh_free)
      (λ n. rw (le-ltb x (next + 1) (omega arith))))

  none_bound : (x : ℕ) → next ≤ x → bound_w w x ≡ None
  unfolding bound_w
  none_bound x h = rw (le-ltb x next h)

  fresh_bound : (x : ℕ) → bound_w (fresh_w w) x ≡ bound_w w x
  fresh_bound x = go (ltb x next) refl
    where
      go : (b : Bool) → ltb x next ≡ b → bound_w (fresh_w w) x ≡ bound_w w x
      go true q = old_bound x (ltb-true x next q)
      go false q = let h = ltb-false x next q in new_bound x h ∙ sym (none_bound x h)

  fresh_type : (n : ℕ) → n < length st.tys → slot_w (fresh_w w) (TYS + 2 * n) ≡ slot_w w (TYS + 2 * n)
  fresh_type n h =
      let l : n < 512 = omega (arith, H.few_nodes) in
      slot_same w (fresh_w w) (TYS + 2 * n) (fresh_other (TYS + 2 * n) (λ q. omega arith) (λ q. omega arith))
      (fresh_other (TYS + 2 * n + 1) (λ q. omega arith) (λ q. omega arith))

  pub fresh_holds : Holds (fresh_w w) T (Bindings.fresh st)
  unfolding Bindings.fresh bound
  fresh_holds = record {
    long = omega (arith, fresh_length, H.long);
    cells = cells_same fresh_cells H.cells;
    binds = record {
      unknowns = length-append st.subst (None ∷ []) ∙ omega (arith, fresh_unknowns, H.binds.unknowns);
      at = λ x. get_d_end st.subst x ∙ H.binds.at x ∙ ap (bound_tree T) (sym (fresh_bound x));
      ok = λ x. rw (fresh_bound x) (ok_bound_same fresh_cells (bound_w w x) (H.binds.ok x));
    };
    types = record {
      at = λ n h. H.types.at n h ∙ ap (bound_tree T) (sym (fresh_type n h));
      ok = λ n h. rw (fresh_type n h) (ok_bound_same fresh_cells (slot_w w (TYS + 2 * n)) (H.types.ok n h));
    };
    undo = H.undo ∙ sym (rw (fresh_other UNDO-LEN (λ q. omega arith) (λ q. omega arith))
        (undo_same w (fresh_w w) (get_or w UNDO-LEN 0) (λ i h. fresh_other (UNDO + i) (λ q. omega arith) (λ q. omega (arith, next_few)))));
    logged = logged_fresh H.logged;
    acyclic = acyclic_among (st.subst ++ None ∷ []) st.subst (λ x t e. sym (get_d_end st.subst x) ∙ e) H.acyclic;
    few_unknowns = omega (arith, length-append st.subst (None ∷ []));
    few_nodes = H.few_nodes;
  }

-- ---- One entry of the log is taken back
abbrev pub pop_w : List ℕ → ℕ → ℕ → List ℕ
pop_w w at n = set (set w at 0) UNDO-LEN n

module _ {w : List ℕ} {T : Rows} {st : State} (H : Holds w T st) (us : List Undo) (m : ℕ) (rest : us ≡ undo_of w m) where
  pub unbind_holds : {x : ℕ} → Unbound x us st.subst st.tys
      → Holds (pop_w w (BINDINGS + 2 * x) m) T (record { subst = set st.subst x None; tys = st.tys; undo = us; left = st.left; history = st.history })
  unfolding unset
  unbind_holds {x} u =
      let slot = binding_slot x (omega (arith, u.within, H.few_unknowns)) in
      binding_changed {b = None} H tt us st.left st.history (rest ∙ sym (pop_undo w H.long (BINDINGS + 2 * x) slot m))
      (pop_change w H.long (BINDINGS + 2 * x) slot m) u.within u.rest (unset_acyclic st.subst x H.acyclic)

  pub unannotate_holds : {n : ℕ} → Unannotated n us st.subst st.tys
      → Holds (pop_w w (TYS + 2 * n) m) T (record { subst = st.subst; tys = set st.tys n None; undo = us; left = st.left; history = st.history })
  unannotate_holds {n} u =
      let slot = type_slot n (omega (arith, u.within, H.few_nodes)) in
      type_changed {b = None} H tt us st.left st.history (rest ∙ sym (pop_undo w H.long (TYS + 2 * n) slot m))
      (pop_change w H.long (TYS + 2 * n) slot m) u.within u.rest
