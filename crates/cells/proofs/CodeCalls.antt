-- Demand 3 of the code's calls. Each call's contract says that the words after it stand for the state that the
-- definition gives, and that state is one that a list of demand 3's calls leads to; what a type in hand stands for is a
-- permitted side, since every cell is. How the definition's unification ended is read off what the code gave back.
use mathlib.Core.Bool.{Bool, true, false}
use mathlib.Core.List.{List, [], ◌∷◌, ◌++◌, map}
use mathlib.Core.Logic.{⊎_elim}
use mathlib.Core.Path.{◌≡◌, refl, sym, ap, subst, ◌∙◌}
use Prim.Native.Nat.{ℕ, zero, suc, ◌+◌, ◌-◌, ◌*◌, ◌%◌, ◌≤◌, ◌<◌}
use native.Mathlib.Omega.{arith}
use lib.ListN.{length, get_or, drop, length-set, length-append, length-replicate}
use Rattle.unification.specs.Ty as Tree
use Rattle.unification.specs.Bindings as Bindings
use Rattle.unification.specs.Bindings.{Subst, History, ended, State}
use Rattle.unification.specs.Unify as Unify
use Rattle.unification.specs.Calls as Calls
use Rattle.unification.specs.Calls.{Declared, Side, SideRow, Admitted, Assignment, Taken, Machine, EntryClaim, AtEveryMoment, Claim}
use Rattle.unification.specs.Tie.{AsRobinson, AllAsRobinson}
use Rattle.unification.proofs.Tests.{clash}
use Rattle.unification.proofs.Undo.{rewind_left, rewind_nodes}
use Rattle.unification.proofs.Kept.{After, Kept, Notes, unify_kept, unify_notes}
use Rattle.unification.proofs.Sides.{side_more, declared_side}
use Rattle.unification.proofs.Demand3.{demand_3}
use Rattle.unification.proofs.Robinson.{robinson, robinson_at_the_limit}
use Rattle.work.specs.Layout.{TYPES, RECORD-COUNT, UNKNOWNS, RECORD-FIELDS, UNDO-LEN}
use Rattle.cells.specs.declared.Ty.{Ty}
use Rattle.cells.specs.declared.Ty.TheVariants.{Int, Str, Bytes, Fact, Record, Union, Var, Error}
use Rattle.cells.specs.declared.Kind.{Kind}
use Rattle.cells.specs.declared.Kind.TheVariants.{Fields, Alternatives}
use Rattle.cells.specs.Words.{declared_w, made_field, fresh_w}
use Rattle.cells.specs.Inferred.{new_record_w, new_record_ty, row_made, rows_with, Filled}
use Rattle.cells.specs.Stands.{Rows, tree, kind_tree, bound_tree, tag_of, IsCell, declared, made, Ok, Holds}
use Rattle.cells.specs.Promises.{Stays, UnifyEnds, Unifies}
use Rattle.cells.specs.CodeCalls.{Declares, Permitted, untyped, with_state_lem, united, CodeCalls, none_yet, unknown, reserving, filling}
use Rattle.cells.specs.CodeCalls.{record_cell, success, failure, snapping, rolling_back, spending, annotation, CodeLed, between_calls, at_the_limit}
use Rattle.cells.specs.CodeCalls.{Returned}
use Rattle.cells.proofs.Frame.{SameCells, keeps_cells, cell_before, cell_by}
use Rattle.cells.proofs.Holding.{holds_log, holds_left, annotate_keeps, annotate_holds, fresh_cells, fresh_holds}
use Rattle.cells.proofs.Making.{reserve_other, reserve_holds, put_field_keeps, put_field_holds, new_record_ty_lem, new_record_other, new_record_count}
use Rattle.cells.proofs.Making.{new_record_more, new_record_row, new_or_old, new_record_holds}
use Rattle.std.specs.Prelude.{Err, None, Option, Result, Some, ℕ}
use Rattle.cells.specs.declared.Failure.{Failure}

-- What a type in hand stands for is a permitted side.
pub ok_side : {w : List ℕ} {T : Rows} {st : State} → Holds w T st → Permitted w T → (t : Ty) → Ok w t → Side (length st.subst) (tree T t)
ok_side H P Int o = tt
ok_side H P Str o = tt
ok_side H P Bytes o = tt
ok_side H P (Fact p) o = tt
ok_side {T = T} H P (Record c) o = subst (λ (n : ℕ). Side n (Tree.node Tree.Record (T c))) (sym H.binds.unknowns) (P.cell Fields c o)
ok_side {T = T} H P (Union c) o = subst (λ (n : ℕ). Side n (Tree.node Tree.Union (T c))) (sym H.binds.unknowns) (P.cell Alternatives c o)
ok_side H P (Var x) o = omega (arith, H.binds.unknowns)
ok_side H P Error o = tt

-- Cells that stay are permitted still.
permitted_old : {w w' : List ℕ} {T : Rows} → ((k : Kind) (c : ℕ) → IsCell w' k c → IsCell w k c) → get_or w UNKNOWNS 0 ≤ get_or w' UNKNOWNS 0
    → Permitted w T → Permitted w' T
permitted_old {w} {w'} {T} old more P = record
    { cell = λ k c h. side_more (get_or w UNKNOWNS 0) (get_or w' UNKNOWNS 0) more (Tree.node (kind_tree k) (T c)) (P.cell k c (old k c h)) }

permitted_same : {w w' : List ℕ} {T : Rows} → SameCells w w' → Permitted w T → Permitted w' T
permitted_same S P = permitted_old (λ k c h. cell_before S h) S.unknowns P

-- A new record has types in hand for fields, so it is permitted.
module _ {w : List ℕ} {T : Rows} {st : State} (H : Holds w T st) (P : Permitted w T) where
  fields_side : (from n : ℕ) → ((j : ℕ) → j < n → Ok w (made_field w (RECORD-FIELDS + 2 * (from + j))).ty) → SideRow (get_or w UNKNOWNS 0) (row_made T w from n)
  unfolding row_made
  fields_side from zero oks = tt
  fields_side from (suc n) oks =
      let here : from + 0 ≡ from = omega arith in
      let first : Ok w (made_field w (RECORD-FIELDS + 2 * from)).ty = rw here at (oks 0 (omega arith)) in (
        refl,
        rw (← H.binds.unknowns) (ok_side H P (made_field w (RECORD-FIELDS + 2 * from)).ty first),
        fields_side (from + 1) n (λ j lt. let next : from + 1 + j ≡ from + (j + 1) = omega arith in rw next (oks (j + 1) (omega arith))),
      )

  permitted_record : (from n : ℕ) → get_or w RECORD-COUNT 0 < 512 → Filled w from n → Permitted (new_record_w w from n) (rows_with w from n T)
  permitted_record from n room F =
      let fits : from + n ≤ 512 = omega (arith, F.given, H.cells.few_fields) in
      let same : get_or (new_record_w w from n) UNKNOWNS 0 ≡ get_or w UNKNOWNS 0 = new_record_other w from n room fits UNKNOWNS (λ q. omega arith)
      (λ q. omega arith) in
      record {
        cell = λ k c h. rw same (⊎_elim
            (λ o. rw ((new_record_more w from n room fits H.long T).same k c o) (P.cell k c o))
            (λ o. rw (o.0, o.1, new_record_row w from n room fits H.long T) (fields_side from n F.ok))
            (new_or_old w from n room fits H.long h));
      }

-- ---- Where a list begins

-- A schema type that has parts stands for its row.
of_tag : (w : List ℕ) (T : Rows) (k : Kind) (t : ℕ) → get_or w (TYPES + 2 * t) 0 % 16 ≡ tag_of k → tree T (declared_w w t) ≡ Tree.node (kind_tree k) (T t)
unfolding declared_w
of_tag w T Fields t e = rw (e, declared_w)
of_tag w T Alternatives t e = rw (e, declared_w)

-- The schema types that a reading declares are permitted, and at the start there is no other cell.
pub declared_permitted : {w : List ℕ} {T : Rows} {types : List Tree.Ty} → Declares w T types → get_or w RECORD-COUNT 0 ≡ 0 → Permitted w T
declared_permitted {w} {T} {types} D empty = record { cell = go }
  where
    go : (k : Kind) (c : ℕ) → IsCell w k c → Side (get_or w UNKNOWNS 0) (Tree.node (kind_tree k) (T c))
    go k c (declared few lt tag) =
        let inside : c < length types = omega (arith, D.count) in
        declared_side (get_or w UNKNOWNS 0) (Tree.node (kind_tree k) (T c)) (subst Declared (sym (D.type c inside) ∙ of_tag w T k c tag) (D.declared c inside))
    go k c (made lo hi) = absurd (omega arith)

-- ---- Beside the machine

abbrev marked : Taken → ℕ
marked to = to.at.undo

-- The words after a list of the code's calls, and the list of demand 3's calls beside it.
pub record Beside (v nodes : ℕ) (w : List ℕ) (T : Rows) (left : ℕ) (marks : List ℕ) (m : Machine) : Type 0 where
  pub calls : Calls.Calls v (untyped nodes) m
  pub holds : Holds w T m.state
  pub permitted : Permitted w T
  pub visits : m.state.left ≡ left
  pub marks_are : map marked m.taken ≡ marks
  pub nodes_are : length m.state.tys ≡ nodes

-- Marks at hand are of snapshots at hand.
record Split (ts : List Taken) (newer older : List ℕ) (mark : ℕ) : Type 0 where
  to : Taken
  before : List Taken
  after : List Taken
  is : ts ≡ before ++ to ∷ after
  from : drop (length newer) ts ≡ to ∷ after
  mark_is : marked to ≡ mark
  older_are : map marked after ≡ older

split : (ts : List Taken) (newer older : List ℕ) (mark : ℕ) → map marked ts ≡ newer ++ mark ∷ older → Split ts newer older mark
split [] [] older mark e = clash (cc)
split [] (x ∷ newer) older mark e = clash (cc)
split (t ∷ ts) [] older mark e = record { to = t; before = []; after = ts; is = refl; from = refl; mark_is = cc; older_are = cc }
split (t ∷ ts) (x ∷ newer) older mark e =
    let q : map marked ts ≡ newer ++ mark ∷ older = cc in
    let r = split ts newer older mark q in
    record {
      to = r.to;
      before = t ∷ r.before;
      after = r.after;
      is = ap {B = List Taken} (λ us. t ∷ us) r.is;
      from = r.from;
      mark_is = r.mark_is;
      older_are = r.older_are;
    }

-- What `unify` gives back, with the state in which it ended over trees.
module _ (v nodes : ℕ) (w' : List ℕ) (T : Rows) (marks : List ℕ) (m : Machine) (a b : Tree.Ty) where
  abbrev Goes : Result ℕ Failure → State → Type 0
  Goes (Result.Ok l) st = Beside v nodes w' T l marks (with_state_lem m st) × Returned m.state.subst a b st.subst (Result.Ok l)
  Goes (Err (Failure.Bad e l)) st = Beside v nodes w' T l marks (with_state_lem m st) × Returned m.state.subst a b st.subst (Err (Failure.Bad e l))
  Goes (Err Failure.Spent) st = Holds w' T st × (Unify.unify m.state a b ≡ Unify.Spent st)

module _ {v nodes : ℕ} where
  -- ---- `unify`
  module _ {w w' : List ℕ} {T : Rows} {left : ℕ} {marks : List ℕ} {m : Machine} {got expected : Ty} {r : Result ℕ Failure}
      (b : Beside v nodes w T left marks m) (og : Ok w got) (oe : Ok w expected) (U : Unifies w got expected left w' r) where
    abbrev x : Tree.Ty
    x = tree T got

    abbrev y : Tree.Ty
    y = tree T expected

    got_side : Side (length m.state.subst) x
    got_side = ok_side b.holds b.permitted got og

    expected_side : Side (length m.state.subst) y
    expected_side = ok_side b.holds b.permitted expected oe

    ends : UnifyEnds w w' T r (Unify.unify m.state x y)
    unfolding Unify.unify
    ends = U.is T m.state b.holds b.visits og oe m.state.left (omega (arith, b.visits))

    stayed : (st : State) → Calls.Calls v (untyped nodes) (with_state_lem m st) → Stays w w' T st → length st.tys ≡ length m.state.tys
        → Beside v nodes w' T st.left marks (with_state_lem m st)
    stayed st calls s same = record {
      calls = calls;
      holds = s.holds;
      permitted = permitted_same (keeps_cells (omega arith) s.keeps) b.permitted;
      visits = refl;
      marks_are = b.marks_are;
      nodes_are = same ∙ b.nodes_are;
    }

    told : (ok : Bool) (st : State) (h : History) → Calls.Calls v (untyped nodes) (with_state_lem m st) → st.history ≡ ended m.state.subst x y ok st.subst h
        → EntryClaim Assignment m.state.subst x y ok st.subst
        × (Admitted m.state.subst x → Admitted m.state.subst y → AsRobinson m.state.subst x y ok st.subst)
    told ok st h calls e =
        let last = ended m.state.subst x y ok st.subst h in
        let claim : AtEveryMoment Assignment last = rw e at (demand_3 v (untyped nodes) _ calls).between_calls.moments in
        let rob : AllAsRobinson last = rw e at (robinson v (untyped nodes) _ calls) in
        (claim.0, rob.0)

    go : (u : Unify.Unified) → Unify.unify m.state x y ≡ u → UnifyEnds w w' T r u → After (Kept m.state) u → Notes m.state.subst x y u
        → Goes v nodes w' T marks m x y r (Unify.end_of u)
    unfolding UnifyEnds
    go (Unify.Ok st) q e kept n =
        let calls = Calls.then_call b.calls (Calls.unification x y got_side expected_side q) in
        rw e.0 (stayed st calls e.1 (ap length kept.tys), told true st n.0 calls n.1)
    go (Unify.Err er st) q e kept n =
        let calls = Calls.then_call b.calls (Calls.failure x y er got_side expected_side q) in
        rw e.1 (stayed st calls e.3 (ap length kept.tys), told false st n.0 calls n.1)
    go (Unify.Spent st) q e kept n = rw e.0 (e.2.holds, q)

    unify_goes : Goes v nodes w' T marks m x y r (united T m.state got expected)
    unify_goes = go (Unify.unify m.state x y) refl ends (unify_kept m.state x y) (unify_notes m.state x y)

  -- ---- The list
  pub code_calls : {w : List ℕ} {T : Rows} {left : ℕ} {marks : List ℕ} {m : Machine} → CodeCalls v nodes w T left marks m → Beside v nodes w T left marks m
  unfolding Calls.begin Bindings.fresh Bindings.with_left Bindings.annotate Calls.take_snapshot Bindings.snapshot Bindings.rollback Bindings.with_history
  code_calls (none_yet H P) =
      record { calls = Calls.none_yet; holds = H; permitted = P; visits = refl; marks_are = refl; nodes_are = length-replicate {A = Option Tree.Ty} nodes None }
  code_calls (unknown {m = m} k few) =
      let b = code_calls k in
      let lt : length m.state.subst < 512 = omega (arith, b.holds.binds.unknowns) in
      record {
        calls = Calls.then_call b.calls Calls.unknown;
        holds = fresh_holds b.holds lt;
        permitted = permitted_same (fresh_cells b.holds lt) b.permitted;
        visits = b.visits;
        marks_are = b.marks_are;
        nodes_are = b.nodes_are;
      }
  code_calls (reserving {w} n k room) =
      let b = code_calls k in
      record {
        calls = b.calls;
        holds = reserve_holds w n room b.holds;
        permitted = permitted_old
            (λ k c h. cell_by (λ j l. sym (reserve_other w n room j (λ q. omega arith)))
            (omega (arith, reserve_other w n room RECORD-COUNT (λ q. omega arith))) h)
            (omega (arith, reserve_other w n room UNKNOWNS (λ q. omega arith))) b.permitted;
        visits = b.visits;
        marks_are = b.marks_are;
        nodes_are = b.nodes_are;
      }
  code_calls (filling {w} i name t from n k lt small R low high) =
      let b = code_calls k in
      let K = put_field_keeps w i name t in
      record {
        calls = b.calls;
        holds = put_field_holds w i name t lt small R low high b.holds.cells.few_records b.holds;
        permitted = permitted_old
            (λ k c h. cell_by (λ j l. sym (K.below j (omega arith))) (omega (arith, K.below RECORD-COUNT (omega arith))) h)
            (omega (arith, K.below UNKNOWNS (omega arith))) b.permitted;
        visits = b.visits;
        marks_are = b.marks_are;
        nodes_are = b.nodes_are;
      }
  code_calls (record_cell {w} from n k room F) =
      let b = code_calls k in
      record {
        calls = b.calls;
        holds = new_record_holds w from n room (omega (arith, F.given, b.holds.cells.few_fields)) b.holds.long b.holds F;
        permitted = permitted_record b.holds b.permitted from n room F;
        visits = b.visits;
        marks_are = b.marks_are;
        nodes_are = b.nodes_are;
      }
  code_calls (success got expected k og oe U) = (unify_goes (code_calls k) og oe U).0
  code_calls (failure got expected e k og oe U) = (unify_goes (code_calls k) og oe U).0
  code_calls (snapping {w} {marks = marks} mark k e) =
      let b = code_calls k in
      let is : get_or w UNDO-LEN 0 ≡ _ = holds_log b.holds in
      record {
        calls = Calls.then_call b.calls Calls.snapping;
        holds = b.holds;
        permitted = b.permitted;
        visits = b.visits;
        marks_are = rw b.marks_are (ap {B = List ℕ} (λ (x : ℕ). x ∷ marks) (sym (e ∙ is)));
        nodes_are = b.nodes_are;
      }
  code_calls (rolling_back {T = T} {m = m} newer older mark k e R) =
      let b = code_calls k in
      let s = split m.taken newer older mark (b.marks_are ∙ e) in
      let back = rw (← s.mark_is) at R in
      rw s.from (record {
        calls = Calls.then_call b.calls (Calls.rolling_back s.before s.after s.to s.is);
        holds = back.is T m.state b.holds s.to.at.past;
        permitted = permitted_same (keeps_cells (omega arith) R.keeps) b.permitted;
        visits = rewind_left (length m.state.undo - s.to.at.undo) m.state.undo m.state ∙ b.visits;
        marks_are = rw (s.older_are, s.mark_is);
        nodes_are = rewind_nodes (length m.state.undo - s.to.at.undo) m.state.undo m.state ∙ b.nodes_are;
      })
  code_calls (spending {m = m} u k le) =
      let b = code_calls k in
      record {
        calls = Calls.then_call b.calls (Calls.spending {m = m} u (omega (arith, b.visits)));
        holds = holds_left b.holds u;
        permitted = b.permitted;
        visits = refl;
        marks_are = b.marks_are;
        nodes_are = b.nodes_are;
      }
  code_calls (annotation {w} {T} {m = m} n t k o lt free) =
      let b = code_calls k in
      let inside : n < length m.state.tys = omega (arith, b.nodes_are) in
      let bare : get_or m.state.tys n None ≡ None = b.holds.types.at n inside ∙ ap (bound_tree T) free in
      record {
        calls = Calls.then_call b.calls (Calls.annotation n _);
        holds = annotate_holds b.holds n t inside bare o;
        permitted = permitted_same (keeps_cells (omega arith) (annotate_keeps _ n t)) b.permitted;
        visits = b.visits;
        marks_are = b.marks_are;
        nodes_are = length-set m.state.tys n (Some (tree T t)) ∙ b.nodes_are;
      }

  -- Wherever a list of the code's calls has led, the limit included, the words stand for a state of which demand 3's
  -- clauses hold and all unifications went as Robinson's notions say.
  pub code_demand_3 : {w : List ℕ} {T : Rows} {st : State} → CodeLed v nodes w T st → Holds w T st × Claim Assignment st × AllAsRobinson st.history
  code_demand_3 (between_calls {m = m} k) =
      let b = code_calls k in
      (b.holds, (demand_3 v (untyped nodes) m b.calls).between_calls, robinson v (untyped nodes) m b.calls)
  code_demand_3 (at_the_limit {m = m} got expected k og oe U) =
      let b = code_calls k in
      let g = unify_goes b og oe U in
      let i = ok_side b.holds b.permitted got og in
      let j = ok_side b.holds b.permitted expected oe in
      (g.0, (demand_3 v (untyped nodes) m b.calls).at_the_limit _ _ _ i j g.1, robinson_at_the_limit v (untyped nodes) m b.calls _ _ _ i j g.1)

  -- ---- What the code gives back, after any list of its calls
  module _ {w : List ℕ} {T : Rows} {left : ℕ} {marks : List ℕ} {m : Machine} (k : CodeCalls v nodes w T left marks m) where
    -- `fresh_var_id`: the number of the new unknown, a type in hand from then on.
    pub code_unknown : (x : ℕ) → get_or w UNKNOWNS 0 < 512 → x ≡ get_or w UNKNOWNS 0 → (x ≡ Bindings.fresh_id m.state) × Ok (fresh_w w) (Var x)
    unfolding Bindings.fresh_id Bindings.fresh
    code_unknown x few e =
        let b = code_calls k in
        let after = code_calls (unknown k few) in
        let is : x ≡ length m.state.subst = omega (arith, b.holds.binds.unknowns) in
        (is, omega (arith, is, after.holds.binds.unknowns, length-append m.state.subst (None ∷ [])))

    -- `new_record`: the record of the fields that were filled, a type in hand from then on.
    pub code_record : (from n : ℕ) (t : Ty) → get_or w RECORD-COUNT 0 < 512 → Filled w from n → t ≡ new_record_ty w from n
        → (tree (rows_with w from n T) t ≡ Tree.node Tree.Record (row_made T w from n)) × Ok (new_record_w w from n) t
    code_record from n t room F e =
        let b = code_calls k in
        let fits : from + n ≤ 512 = omega (arith, F.given, b.holds.cells.few_fields) in
        rw (e, new_record_ty_lem w from n room fits) (
          ap (Tree.node Tree.Record) (new_record_row w from n room fits b.holds.long T),
          made {c = get_or w RECORD-COUNT 0 + 256} (omega arith) (omega (arith, new_record_count w from n room fits b.holds.long)),
        )

    -- `unify`: how it ended.
    pub code_unify : {w' : List ℕ} (got expected : Ty) (r : Result ℕ Failure) → Ok w got → Ok w expected → Unifies w got expected left w' r
        → Returned m.state.subst (tree T got) (tree T expected) (united T m.state got expected).subst r
    code_unify got expected (Result.Ok l) og oe U = (unify_goes (code_calls k) og oe U).1
    code_unify got expected (Err (Failure.Bad e l)) og oe U = (unify_goes (code_calls k) og oe U).1
    code_unify got expected (Err Failure.Spent) og oe U = tt
