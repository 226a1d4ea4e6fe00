-- `check` by the head of what is expected and by the node's form: nothing against Error, a note for a wildcard, fields
-- or an alternative for a record, and else what is inferred unified.
use mathlib.Core.List.{List, [], ◌∷◌}
use mathlib.Core.Logic.{◌≢◌}
use mathlib.Core.Path.{◌≡◌, refl, sym, ◌∙◌, ap}
use Prim.Native.Nat.{ℕ, zero, suc, ◌<◌}
use native.Mathlib.Omega.{arith}
use lib.ListN.{length}
use Rattle.unification.specs.Ty as Tree
use Rattle.unification.specs.Unify.{find_label}
use Rattle.cells.specs.declared.Ty.{Ty}
use Rattle.cells.specs.declared.Ty.TheVariants.{Int, Str, Bytes, Fact, Record, Union, Var, Error}
use Rattle.cells.specs.Words.{tag_w}
use Rattle.cells.specs.Stands.{Rows, tree}
use Rattle.cells.specs.declared.Part.{Part}
use Rattle.cells.specs.Promises.{found_ty, FindsName, Reprs}
use Rattle.format.specs.Syntax.{Field, ExprKind, node_at}
use Rattle.format.specs.References.{field_values, expr_nodes}
use Rattle.meaning.specs.Diag as Diag
use Rattle.format.specs.File.{Described}
use Rattle.meaning.specs.Check.{Checker, Walk, walk, NodeForm, a_wildcard, a_variable, a_constant, a_record, a_disjunction, an_error, another, form, form_of}
use Rattle.meaning.specs.Check.{repr}
use Rattle.meaning.specs.Check.{annotate, reject, infer_then_unify, check_fields, check_alternative, check_union, check_record, check_form, check_against}
use Rattle.meaning.specs.Check.{check_at}
use Rattle.meaning.specs.Weights.{same, sum_of, weight}
use Rattle.meaning.specs.Grades.{unknowns, one_diagnostic, one_node}
use Rattle.meaning.proofs.Steps.{Nothing}
use Rattle.meaning.proofs.Visits.{size_pos, own_weight, payload_side, check_fields_meets}
use Rattle.messages.specs.declared.Message.{Message}
use Rattle.messages.specs.Said.{said, OkMessage}
use Rattle.tree.specs.declared.items.Items.{Items}
use Rattle.tree.specs.declared.Node.{Node}
use Rattle.tree.specs.Nodes.{field_w, field_of, fields_from, kind_w, IsNode}
use Rattle.tree.proofs.Steps.{fields_length}
use Rattle.steps.specs.Ends.{done, StepEnds}
use Rattle.steps.specs.Loads.{Load, only, both, FitsIn, checks, visits, Begins, Beside}
use Rattle.steps.specs.Promises.{nodes_of, Fine, FineRecord, FineUnion, Notes, Rejects, Named, AllNamed, NodeAt}
use Rattle.checker.specs.Promises.{below, InfersThenUnifies, ChecksFields, ChecksUnion, Checks}
use Rattle.checker.proofs.Within.{ChecksRecord}
use Rattle.steps.proofs.Sequel.{begins_part, ends_wider}
use Rattle.steps.proofs.Results.{fine_after, tree_after, on_here, then_done, stop_done, silent_on}
use Rattle.steps.proofs.Reading.{parts_named, kind_read, form_read}
use Rattle.checker.proofs.Inferring.{good}
use Rattle.checker.proofs.Arms.{fine_head}
use Rattle.std.specs.Prelude.{None, Option, Some}

-- ---- The head of what is expected
not_error : (T : Rows) (t : Ty) → tag_w t ≢ 8 → (d : Described) (b : Walk) (n : ℕ) (c : Checker)
    → check_against d.schema (nodes_of d) b n (tree T t) c ≡ check_form d.schema (nodes_of d) b n (form d.schema (nodes_of d) n) (tree T t) c
unfolding check_against
not_error T Int h d b n c = refl
not_error T Str h d b n c = refl
not_error T Bytes h d b n c = refl
not_error T (Fact p) h d b n c = refl
not_error T (Record x) h d b n c = refl
not_error T (Union x) h d b n c = refl
not_error T (Var x) h d b n c = refl
not_error T Error h d b n c = absurd (h refl)

an_error_lem : (T : Rows) (t : Ty) → tag_w t ≡ 8 → tree T t ≡ Tree.Error
an_error_lem T Int h = absurd (omega arith)
an_error_lem T Str h = absurd (omega arith)
an_error_lem T Bytes h = absurd (omega arith)
an_error_lem T (Fact p) h = absurd (omega arith)
an_error_lem T (Record x) h = absurd (omega arith)
an_error_lem T (Union x) h = absurd (omega arith)
an_error_lem T (Var x) h = absurd (omega arith)
an_error_lem T Error h = refl

module _ {f w ou : List ℕ} {n left : ℕ} {e t : Ty} (R : Reprs w e t) where
  -- Against Error nothing is visited.
  pub check_nothing : tag_w t ≡ 8 → Checks f w ou n e left w ou (Some left)
  unfolding walk check_at repr check_against
  check_nothing h = record { is = λ d k. at_depth d k }
    where
      at_depth : (d : Described) (k : ℕ) → Named d k n → Beside f w ou left w ou (done (Some left)) d (checks (nodes_of d) k n) (Fine w e)
          (λ T. (below d k).check n (tree T e))
      at_depth d zero m = absurd (omega (arith, m.under))
      at_depth d (suc k) m = record {
        is = λ T c s fine. rw (sym (R.is T c.state.subst s.runs.holds.binds) ∙ an_error_lem T t h)
            (on_here s.runs s.lines s.visits);
      }

  -- By the node's form.
  pub check_as : {w' ou' : List ℕ} {r : Option ℕ} {nd : Node} → tag_w t ≢ 8 → IsNode f w n nd
      → ((d : Described) (k : ℕ) (T : Rows) (c : Checker) → NodeAt d k n → (node_at (nodes_of d) n).kind ≡ kind_w f nd
      → Begins f w ou T d (checks (nodes_of d) (suc k) n) left c → Fine w t T c
      → StepEnds f w ou w' ou' T d (checks (nodes_of d) (suc k) n).records (checks (nodes_of d) (suc k) n).fields (done r)
      (check_form d.schema (nodes_of d) (below d k) n (form_of (kind_w f nd)) (tree T t) c))
      → Checks f w ou n e left w' ou' r
  unfolding walk check_at repr
  check_as {w'} {ou'} {r} {nd} h i next = record { is = λ d k. at_depth d k }
    where
      at_depth : (d : Described) (k : ℕ) → Named d k n → Beside f w ou left w' ou' (done r) d (checks (nodes_of d) k n) (Fine w e)
          (λ T. (below d k).check n (tree T e))
      at_depth d zero m = absurd (omega (arith, m.under))
      at_depth d (suc k) m = record {
        is = λ T c s fine.
            rw (← R.is T c.state.subst s.runs.holds.binds, not_error T t h d (below d k) n c, form_read s m.there i)
            (next d k T c (record { there = m.there; above = omega (arith, m.under) }) (kind_read s m.there i) s (fine_head s R fine));
      }

-- ---- The forms
note_fits : (d : Described) (k n : ℕ) → FitsIn (only (one_node n)) (checks (nodes_of d) k n)
note_fits d k n = record {
  grade = record
      { nodes = λ x. own_weight (nodes_of d) (λ m. same x m) k n; unknowns = omega arith; diagnostics = omega arith };
  records = omega arith;
  fields = omega arith;
}

-- Forms that are inferred and unified.
abbrev pub Inferred : NodeForm → Type 0
Inferred (a_variable x) = Unit {0}
Inferred a_constant = Unit {0}
Inferred an_error = Unit {0}
Inferred (a_disjunction es) = Unit {0}
Inferred another = Unit {0}
Inferred a_wildcard = ⊥
Inferred (a_record fs) = ⊥

inferred_form : (q : NodeForm) → Inferred q → (d : Described) (b : Walk) (n : ℕ) (t : Tree.Ty) (c : Checker)
    → check_form d.schema (nodes_of d) b n q t c ≡ infer_then_unify d.schema (nodes_of d) b n t c
unfolding check_form
inferred_form (a_variable x) h d b n t c = refl
inferred_form a_constant h d b n t c = refl
inferred_form an_error h d b n t c = refl
inferred_form (a_disjunction es) h d b n t c = refl
inferred_form another h d b n t c = refl
inferred_form a_wildcard h d b n t c = absurd h
inferred_form (a_record fs) h d b n t c = absurd h

module _ {f w ou w' ou' : List ℕ} {n left : ℕ} {e t : Ty} (R : Reprs w e t) (h : tag_w t ≢ 8) where
  pub check_wildcard : IsNode f w n Node.Wildcard → Notes f w ou n t left w' ou' → Checks f w ou n e left w' ou' (Some left)
  unfolding kind_w form_of check_form
  check_wildcard i ann = check_as R h i (λ d k T c at q s fine.
      ends_wider (omega arith) (omega arith) (silent_on
      ((ann d at.there).is T c (begins_part (only (one_node n)) (checks (nodes_of d) (suc k) n) (note_fits d (suc k) n) s) fine)))

  pub check_record_lem : {l : Items} {r : Option ℕ} → IsNode f w n (Node.Record l) → ChecksRecord f w ou n l t left w' ou' r → Checks f w ou n e left w' ou' r
  unfolding kind_w form_of check_form
  check_record_lem {l} i C = check_as R h i (λ d k T c at q s fine. (C.is d k (fields_from f l 0 l.n) refl at q).is T c s fine)

  pub check_inferred : {nd : Node} {r : Option ℕ} → Inferred (form_of (kind_w f nd)) → IsNode f w n nd → InfersThenUnifies f w ou n t left w' ou' r
      → Checks f w ou n e left w' ou' r
  check_inferred {nd} j i U = check_as R h i
      (λ d k T c at q s fine. rw (inferred_form (form_of (kind_w f nd)) j d (below d k) n (tree T t) c) ((U.is d k at).is T c s fine))

-- ---- A record against a type
record_fits : (d : Described) (k n : ℕ) (fs : List Field) → (node_at (nodes_of d) n).kind ≡ ExprKind.Record fs
    → FitsIn (both (visits (nodes_of d) k (field_values fs)) (only (one_node n))) (checks (nodes_of d) (suc k) n)
unfolding weight expr_nodes
record_fits d k n fs e = rw e (record { grade = omega arith; records = omega arith; fields = omega arith })

values_named : {d : Described} {k n : ℕ} {fs : List Field} {f w ou : List ℕ} {T : Rows} {L : Load} {left : ℕ} {c : Checker}
    → Begins f w ou T d L left c → NodeAt d k n → (node_at (nodes_of d) n).kind ≡ ExprKind.Record fs → AllNamed d k (field_values fs)
unfolding expr_nodes
values_named {k = k} s at e = rw e at (parts_named s.sound at.there k at.above)

module _ {f w ou : List ℕ} {n left : ℕ} {l : Items} where
  module _ {w₁ ou₁ : List ℕ} {e : ℕ} {r : Option ℕ} (C : ChecksFields f w ou l e left w₁ ou₁ r) where
    pub record_noted : {w₂ ou₂ : List ℕ} {v : ℕ} → r ≡ Some v → Notes f w₁ ou₁ n (Record e) v w₂ ou₂
        → ChecksRecord f w ou n l (Record e) left w₂ ou₂ (Some v)
    unfolding check_record
    record_noted g ann = record {
      is = λ d k fs z at q. record {
        is = λ T c s fine.
            let inner : FineRecord w e T c = record { cell = fine.ok; side = fine.side } in
            then_done (visits (nodes_of d) k (field_values fs)) (only (one_node n)) (checks (nodes_of d) (suc k) n) (record_fits d k n fs q) Nothing
            (check_fields d.schema (nodes_of d) (below d k) fs (T e) c)
            (λ u. annotate n (Tree.node Tree.Record (T e))) g s
            (λ y. check_fields_meets d.schema (nodes_of d) s.sound.predicates k (below d k) (good s k) fs (T e) c s.orderly y fine.side)
            (λ s₁. (C.is d k fs z (values_named s at q)).is T c s₁ inner)
            (λ T₁ b a. rw (← tree_after a (Record e) fine.ok) (silent_on ((ann d at.there).is T₁ b a.begins (fine_after a (Record e) fine))));
      };
    }

    pub record_out : r ≡ None → ChecksRecord f w ou n l (Record e) left w₁ ou₁ None
    unfolding check_record
    record_out g = record {
      is = λ d k fs z at q. record {
        is = λ T c s fine.
            let inner : FineRecord w e T c = record { cell = fine.ok; side = fine.side } in
            stop_done (visits (nodes_of d) k (field_values fs)) (only (one_node n)) (checks (nodes_of d) (suc k) n) (record_fits d k n fs q) Nothing
            (check_fields d.schema (nodes_of d) (below d k) fs (T e) c)
            (λ u. annotate n (Tree.node Tree.Record (T e))) g refl s (λ s₁. (C.is d k fs z (values_named s at q)).is T c s₁ inner);
      };
    }

  pub record_union : {w' ou' : List ℕ} {e : ℕ} {r : Option ℕ} → ChecksUnion f w ou n l e left w' ou' r → ChecksRecord f w ou n l (Union e) left w' ou' r
  unfolding check_record
  record_union C = record { is = λ d k fs z at q. record { is = λ T c s fine. (C.is d k fs z at q).is T c s (record { cell = fine.ok; side = fine.side }) } }

-- Types that are no cell.
abbrev pub NoCell : Ty → Type 0
NoCell Int = Unit {0}
NoCell Str = Unit {0}
NoCell Bytes = Unit {0}
NoCell (Fact p) = Unit {0}
NoCell (Var x) = Unit {0}
NoCell Error = Unit {0}
NoCell (Record c) = ⊥
NoCell (Union c) = ⊥

no_cell : (T : Rows) (t : Ty) → NoCell t → (d : Described) (b : Walk) (n : ℕ) (fs : List Field) (c : Checker)
    → check_record d.schema (nodes_of d) b n fs (tree T t) c ≡ infer_then_unify d.schema (nodes_of d) b n (tree T t) c
unfolding check_record
no_cell T Int h d b n fs c = refl
no_cell T Str h d b n fs c = refl
no_cell T Bytes h d b n fs c = refl
no_cell T (Fact p) h d b n fs c = refl
no_cell T (Var x) h d b n fs c = refl
no_cell T Error h d b n fs c = refl
no_cell T (Record x) h d b n fs c = absurd h
no_cell T (Union x) h d b n fs c = absurd h

pub record_other : {f w ou w' ou' : List ℕ} {n left : ℕ} {l : Items} {t : Ty} {r : Option ℕ} → NoCell t → InfersThenUnifies f w ou n t left w' ou' r
    → ChecksRecord f w ou n l t left w' ou' r
record_other {n = n} {t = t} h U = record
    { is = λ d k fs z at q. record { is = λ T c s fine. rw (no_cell T t h d (below d k) n fs c) ((U.is d k at).is T c s fine) } }

-- ---- One alternative of a union
reject_fits : (d : Described) (k n : ℕ) → FitsIn (only one_diagnostic) (checks (nodes_of d) k n)
reject_fits d k n = record { grade = omega (arith, size_pos (nodes_of d) k n); records = omega arith; fields = omega arith }

pub rejected : {f w ou w' ou' : List ℕ} {n left : ℕ} {T : Rows} {d : Described} {c : Checker} {r : Option ℕ} (k : ℕ) (m : Message) → OkMessage w m
    → Rejects f w ou n m left w' ou' r → n < length (nodes_of d) → Begins f w ou T d (checks (nodes_of d) k n) left c
    → StepEnds f w ou w' ou' T d (checks (nodes_of d) k n).records (checks (nodes_of d) k n).fields (done r)
    (reject d.schema (nodes_of d) n (said T c.state.subst m) c)
rejected {n = n} {T = T} {d = d} {c = c} k m ok R there s =
    ends_wider (omega arith) (omega arith) ((R d there).is T c (begins_part (only one_diagnostic) (checks (nodes_of d) k n) (reject_fits d k n) s) ok)

-- not one field
arity : (d : Described) (b : Walk) (n : ℕ) (fs : List Field) (row : Tree.Row) (c : Checker) → length fs ≢ 1
    → check_union d.schema (nodes_of d) b n fs row c ≡ reject d.schema (nodes_of d) n (Diag.not_one_alternative (length fs)) c
unfolding check_union
arity d b n [] row c h = refl
arity d b n (x ∷ []) row c h = absurd (h refl)
arity d b n (x ∷ y ∷ fs) row c h = refl

pub union_arity : {f w ou w' ou' : List ℕ} {n e left : ℕ} {l : Items} {r : Option ℕ} → l.n ≢ 1
    → Rejects f w ou n (Message.NotOneAlternative l.n) left w' ou' r → ChecksUnion f w ou n l e left w' ou' r
union_arity {f = f} {n = n} {e = e} {l = l} h R = record {
  is = λ d k fs z at q. record {
    is = λ T c s fine.
        let long : length fs ≡ l.n = ap length z ∙ fields_length f l l.n 0 in
        rw (arity d (below d k) n fs (T e) c (λ p. h (sym long ∙ p)), long) (rejected (suc k) (Message.NotOneAlternative l.n) tt R at.there s);
  };
}

-- One field: its alternative is checked, and the node has the union's type.
first_field : (f : List ℕ) (l : Items) → l.n ≡ 1 → (fs : List Field) → fs ≡ fields_from f l 0 l.n → fs ≡ field_of (field_w f l 0) ∷ []
unfolding fields_from
first_field f l one fs z = z ∙ ap (fields_from f l 0) one

module _ {f w ou : List ℕ} {e name : ℕ} {found : Option Part} (F : FindsName w e name found) {p : Part} (g : found ≡ Some p) {T : Rows} {d : Described}
    {L : Load} {left : ℕ} {c : Checker} (s : Begins f w ou T d L left c) (fine : FineUnion w e T c) where
  payload_is : find_label name (T e) ≡ Some (tree T p.ty)
  payload_is = sym (F.is T s.runs.holds.cells fine.cell) ∙ ap (found_ty T) g

  payload_fine : Fine w p.ty T c
  payload_fine = record {
    ok = rw g at (F.ok T s.runs.holds.cells fine.cell);
    side = rw payload_is at (payload_side (unknowns c) name (T e) fine.side.1);
  }

-- A record of one field, its value's visit and the node itself.
one_fits : (d : Described) (k n : ℕ) (x : Field) → (node_at (nodes_of d) n).kind ≡ ExprKind.Record (x ∷ [])
    → FitsIn (both (checks (nodes_of d) k x.value) (only (one_node n))) (checks (nodes_of d) (suc k) n)
unfolding weight expr_nodes field_values sum_of
one_fits d k n x e = rw e (record { grade = omega arith; records = omega arith; fields = omega arith })

one_named : {d : Described} {k : ℕ} (x : Field) → AllNamed d k (field_values (x ∷ [])) → Named d k x.value
unfolding field_values
one_named x h = h.0

module _ {f w ou : List ℕ} {n e left : ℕ} {l : Items} (one : l.n ≡ 1) {found : Option Part} (F : FindsName w e (field_w f l 0).name found) where
  pub union_unknown : {w' ou' : List ℕ} {r : Option ℕ} → found ≡ None
      → Rejects f w ou n (Message.NoAlternative (field_w f l 0).name) left w' ou' r → ChecksUnion f w ou n l e left w' ou' r
  unfolding check_union check_alternative field_of
  union_unknown g R = record {
    is = λ d k fs z at q. record {
      is = λ T c s fine.
          let none_found : find_label (field_w f l 0).name (T e) ≡ None = sym (F.is T s.runs.holds.cells fine.cell) ∙ ap (found_ty T) g in
          rw (first_field f l one fs z, none_found, check_alternative) (rejected (suc k) (Message.NoAlternative (field_w f l 0).name) tt R at.there s);
    };
  }

  module _ {p : Part} (g : found ≡ Some p) {w₁ ou₁ : List ℕ} {r : Option ℕ} (C : Checks f w ou (field_w f l 0).value p.ty left w₁ ou₁ r) where
    pub union_noted : {w₂ ou₂ : List ℕ} {v : ℕ} → r ≡ Some v → Notes f w₁ ou₁ n (Union e) v w₂ ou₂ → ChecksUnion f w ou n l e left w₂ ou₂ (Some v)
    unfolding check_union check_alternative field_of
    union_noted h ann = record {
      is = λ d k fs z at q. record {
        is = λ T c s fine.
            let x = field_of (field_w f l 0) in
            let q₁ : (node_at (nodes_of d) n).kind ≡ ExprKind.Record (x ∷ []) = q ∙ ap ExprKind.Record (first_field f l one fs z) in
            let inner = payload_fine F g s fine in
            let outer : Fine w (Union e) T c = record { ok = fine.cell; side = fine.side } in
            rw (first_field f l one fs z, payload_is F g s fine, check_alternative)
            (then_done (checks (nodes_of d) k x.value) (only (one_node n)) (checks (nodes_of d) (suc k) n) (one_fits d k n x q₁) Nothing
            ((below d k).check x.value (tree T p.ty) c) (λ u. annotate n (Tree.node Tree.Union (T e))) h s
            (λ y. (good s k).check x.value (tree T p.ty) c s.orderly y inner.side)
            (λ s₁. (C.is d k (one_named x (values_named s at q₁))).is T c s₁ inner)
            (λ T₁ b a. rw (← tree_after a (Union e) fine.cell) (silent_on ((ann d at.there).is T₁ b a.begins (fine_after a (Union e) outer)))));
      };
    }

    pub union_out : r ≡ None → ChecksUnion f w ou n l e left w₁ ou₁ None
    unfolding check_union check_alternative field_of
    union_out h = record {
      is = λ d k fs z at q. record {
        is = λ T c s fine.
            let x = field_of (field_w f l 0) in
            let q₁ : (node_at (nodes_of d) n).kind ≡ ExprKind.Record (x ∷ []) = q ∙ ap ExprKind.Record (first_field f l one fs z) in
            rw (first_field f l one fs z, payload_is F g s fine, check_alternative)
            (stop_done (checks (nodes_of d) k x.value) (only (one_node n)) (checks (nodes_of d) (suc k) n) (one_fits d k n x q₁) Nothing
            ((below d k).check x.value (tree T p.ty) c) (λ u. annotate n (Tree.node Tree.Union (T e))) h refl s
            (λ s₁. (C.is d k (one_named x (values_named s at q₁))).is T c s₁ (payload_fine F g s fine)));
      };
    }
