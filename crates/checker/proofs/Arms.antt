-- The arms of `infer_kind` that visit nodes below: a base and then its field, value or alternative; a fact's key;
-- operands and branches; a subquery. What a kind's parts make and what it makes of its own is the load of the arm.
use mathlib.Core.List.{List, [], ◌∷◌}
use mathlib.Core.Path.{◌≡◌, refl, sym, ◌∙◌, ap}
use Prim.Native.Nat.{ℕ, ◌<◌}
use native.Mathlib.Omega.{arith}
use lib.ListN.{length}
use Rattle.unification.specs.Ty as Tree
use Rattle.unification.specs.Bindings as Bindings
use Rattle.unification.proofs.Tests.{clash}
use Rattle.unification.proofs.Sides.{declared_side}
use Rattle.cells.specs.declared.Ty.{Ty}
use Rattle.cells.specs.declared.Ty.TheVariants.{Int, Fact, Var}
use Rattle.cells.specs.Stands.{Rows, tree, bound_tree}
use Rattle.cells.specs.Promises.{Reprs}
use Rattle.format.specs.Syntax.{ExprKind, Field, FieldRef, no_node, node_at}
use Rattle.format.specs.References.{field_names, expr_names, expr_nodes}
use Rattle.format.specs.All.{Below}
use Rattle.format.specs.Conditions.{max_names}
use Rattle.format.specs.Sound.{Sound}
use Rattle.format.proofs.Lists.{all_at, all_map}
use Rattle.format.specs.File.{Described}
use Rattle.meaning.specs.Check.{Checker, goes, Does, and_then, repr, Walk, key_ty, access_of, access, select_of, select, fact, infer_kind, disjunction}
use Rattle.meaning.specs.Check.{fresh_var_id}
use Rattle.meaning.specs.Weights.{sum_of, records_of, fields_of}
use Rattle.meaning.specs.Grades.{unknowns, no_thing, one_diagnostic, one_unknown}
use Rattle.meaning.proofs.Steps.{Nothing, fresh_var_id_meets}
use Rattle.meaning.proofs.Visits.{repr_side, size_pos, key_declared}
use Rattle.tree.specs.declared.Node.{Node}
use Rattle.tree.specs.declared.items.Items.{Items}
use Rattle.tree.specs.declared.items.Stmts.{Stmts}
use Rattle.tree.specs.Nodes.{fields_from, items_from, stmts_w, kind_w, IsNode}
use Rattle.steps.specs.Loads.{Load, only, both, FitsIn, infers, checks, visits, parts, Begins}
use Rattle.steps.specs.Promises.{nodes_of, Fine, Freshens, fuzzy, Fuzzes, KeyIs, OnType}
use Rattle.checker.specs.Promises.{below, Infers, InfersKind, InfersRecord, InfersAll, Subqueries, Facts, all_with, Checks}
use Rattle.steps.proofs.Sequel.{begins_part, ends_wider}
use Rattle.steps.proofs.Reading.{kind_read}
use Rattle.steps.proofs.Results.{type_here, then_typed, stop_typed, then_done, stop_done, then_numbered}
use Rattle.checker.proofs.Inferring.{good, arm, ok_unknown}
use Rattle.std.specs.Prelude.{None, Option, Some, ℕ}

-- ---- A type in hand followed to its head
pub fine_head : {f w ou : List ℕ} {T : Rows} {d : Described} {L : Load} {left : ℕ} {c : Checker} {t u : Ty} → Begins f w ou T d L left c → Reprs w t u
    → Fine w t T c → Fine w u T c
fine_head {T = T} {c = c} {t = t} s r fine = record {
  ok = r.ok T c.state.subst s.runs.holds.binds fine.ok;
  side = rw (r.is T c.state.subst s.runs.holds.binds) (repr_side c (tree T t) s.orderly fine.side);
}

-- ---- A base, and then a step on its head
base_fits : (d : Described) (k base : ℕ) (kd : ExprKind) → expr_nodes kd ≡ base ∷ []
    → FitsIn (both (infers (nodes_of d) k base) (only one_diagnostic)) (parts (nodes_of d) k kd)
unfolding sum_of
base_fits d k base kd e = rw e (record { grade = omega (arith, size_pos (nodes_of d) k base); records = omega arith; fields = omega arith })

-- The kind's arm of the definition, by the step on the head.
pub record OnHead (f : List ℕ) (n base : ℕ) (nd : Node) (m : Described → Tree.Ty → Does Tree.Ty) : Type 0 where
  pub other : (x : ℕ) → ¬ (kind_w f nd ≡ ExprKind.Var x)
  pub part : expr_nodes (kind_w f nd) ≡ base ∷ []
  pub is : (d : Described) (b : Walk) (c : Checker) → infer_kind d.schema (nodes_of d) b n (kind_w f nd) c ≡ and_then (b.infer base c)
      (λ ty e. m d (Bindings.repr e.state.subst ty) e)

module _ {f w ou w₁ ou₁ : List ℕ} {n base left : ℕ} {nd : Node} {m : Described → Tree.Ty → Does Tree.Ty} (o : OnHead f n base nd m)
    (i : IsNode f w n nd) {r : Option (Ty × ℕ)} (I : Infers f w ou base left w₁ ou₁ r) where
  pub head_arm : {w₂ ou₂ : List ℕ} {res : Option (Ty × ℕ)} {t u : Ty} {l : ℕ} → r ≡ Some (t, l) → Reprs w₁ t u
      → OnType m f w₁ ou₁ n u l w₂ ou₂ res → InfersKind f w ou n left w₂ ou₂ res
  head_arm {t = t} {u = u} e R step = arm i o.other (λ d k T c at named s.
      rw (o.is d (below d k) c) (then_typed (infers (nodes_of d) k base) (only one_diagnostic) (parts (nodes_of d) k (kind_w f nd))
      (base_fits d k base (kind_w f nd) o.part) ((below d k).infer base c)
      (λ ty e. m d (Bindings.repr e.state.subst ty) e) e s
      (λ y. (good s k).infer base c s.orderly y) (λ s₁. (I.is d k (rw o.part at named).0).is T c s₁ tt)
      (λ T₁ b a fine. rw (← R.is T₁ b.state.subst a.begins.runs.holds.binds)
      ((step.is d at.there).is T₁ b a.begins (fine_head a.begins R fine)))))

  pub head_out : r ≡ None → InfersKind f w ou n left w₁ ou₁ None
  head_out e = arm i o.other (λ d k T c at named s.
      rw (o.is d (below d k) c) (stop_typed (infers (nodes_of d) k base) (only one_diagnostic) (parts (nodes_of d) k (kind_w f nd))
      (base_fits d k base (kind_w f nd) o.part) ((below d k).infer base c)
      (λ ty e. m d (Bindings.repr e.state.subst ty) e) e refl s (λ s₁. (I.is d k (rw o.part at named).0).is T c s₁ tt)))

pub key_head : {f : List ℕ} {n name base : ℕ} → OnHead f n base (Node.Key name base) (λ d t. access_of d.schema (nodes_of d) n (FieldRef.Key name) t)
unfolding kind_w infer_kind expr_nodes access repr
key_head = record { other = λ x e. clash (cc e); part = refl; is = λ d b c. refl }

pub value_head : {f : List ℕ} {n base : ℕ} → OnHead f n base (Node.Value base) (λ d t. access_of d.schema (nodes_of d) n FieldRef.Value t)
unfolding kind_w infer_kind expr_nodes access repr
value_head = record { other = λ x e. clash (cc e); part = refl; is = λ d b c. refl }

pub select_head : {f : List ℕ} {n name base : ℕ} → OnHead f n base (Node.Select name base) (λ d t. select_of d.schema (nodes_of d) n name t)
unfolding kind_w infer_kind expr_nodes select repr
select_head = record { other = λ x e. clash (cc e); part = refl; is = λ d b c. refl }

-- ---- A fact's key
fact_fits : (d : Described) (k p key : ℕ) → FitsIn (both (checks (nodes_of d) k key) (only no_thing)) (parts (nodes_of d) k (ExprKind.Fact p key))
unfolding sum_of expr_nodes
fact_fits d k p key = record { grade = omega arith; records = omega arith; fields = omega arith }

module _ {f w ou : List ℕ} {p : ℕ} {t : Option Ty} {u : Ty} (K : KeyIs f w p t) (e : t ≡ Some u) {T : Rows} {d : Described} {L : Load} {left : ℕ}
    {c : Checker} (s : Begins f w ou T d L left c) where
  key_is : key_ty d.schema (nodes_of d) p ≡ Some (tree T u)
  key_is = sym (K.is T d c s.runs) ∙ ap (bound_tree T) e

  key_fine : Fine w u T c
  key_fine = record {
    ok = rw e at (K.ok T d c s.runs);
    side = declared_side (unknowns c) (tree T u)
        (rw key_is at (key_declared d.schema (nodes_of d) s.sound.predicates p));
  }

module _ {f w ou : List ℕ} {p key left : ℕ} where
  pub fact_free : {t : Option Ty} → KeyIs f w p t → t ≡ None → Facts f w ou p key left w ou (Some ((Fact p), left))
  unfolding fact
  fact_free K e = record {
    is = λ d k named. record {
      is = λ T c s u.
          let q : key_ty d.schema (nodes_of d) p ≡ None = sym (K.is T d c s.runs) ∙ ap (bound_tree T) e in
          rw (q, fact) (type_here (Fact p) s.runs s.lines s.visits tt);
    };
  }

  module _ {t : Option Ty} {u : Ty} (K : KeyIs f w p t) (e : t ≡ Some u) where
    pub fact_on : {w₁ ou₁ : List ℕ} {r : Option ℕ} {l : ℕ} → Checks f w ou key u left w₁ ou₁ r → r ≡ Some l
        → Facts f w ou p key left w₁ ou₁ (Some ((Fact p), l))
    unfolding fact
    fact_on C g = record {
      is = λ d k named. record {
        is = λ T c s u'.
            rw (key_is K e s, fact) (then_done (checks (nodes_of d) k key) (only no_thing) (parts (nodes_of d) k (ExprKind.Fact p key))
            (fact_fits d k p key) Nothing ((below d k).check key (tree T u) c) (λ v b. goes (Tree.leaf (Tree.Fact p)) b) g s
            (λ y. (good s k).check key (tree T u) c s.orderly y (key_fine K e s).side) (λ s₁. (C.is d k named).is T c s₁ (key_fine K e s₁))
            (λ T₁ b a. type_here (Fact p) a.begins.runs a.begins.lines a.begins.visits tt));
      };
    }

    pub fact_out : {w₁ ou₁ : List ℕ} {r : Option ℕ} → Checks f w ou key u left w₁ ou₁ r → r ≡ None → Facts f w ou p key left w₁ ou₁ None
    unfolding fact
    fact_out C g = record {
      is = λ d k named. record {
        is = λ T c s u'.
            rw (key_is K e s, fact) (stop_done (checks (nodes_of d) k key) (only no_thing) (parts (nodes_of d) k (ExprKind.Fact p key))
            (fact_fits d k p key) Nothing ((below d k).check key (tree T u) c) (λ v b. goes (Tree.leaf (Tree.Fact p)) b) g refl s
            (λ s₁. (C.is d k named).is T c s₁ (key_fine K e s₁)));
      };
    }

-- ---- A record: its names are names of the file
small_names : {d : Described} {n : ℕ} {fs : List Field} → Sound d → n < length (nodes_of d) → (node_at (nodes_of d) n).kind ≡ ExprKind.Record fs
    → Below 65536 (field_names fs)
unfolding node_at expr_names max_names
small_names {d} {n} {fs} s there e =
    all_map (λ x. x < length d.schema.characters) (λ x. x < 65536) (field_names fs) (λ x h. omega (arith, s.names_max))
    (rw e at (all_at (λ m. Below (length d.schema.characters) (expr_names m.kind)) (nodes_of d) n no_node s.names_below there))

module _ {f w ou w' ou' : List ℕ} {n left : ℕ} {r : Option (Ty × ℕ)} where
  pub fact_arm : {p key : ℕ} → IsNode f w n (Node.Fact p key) → Facts f w ou p key left w' ou' r → InfersKind f w ou n left w' ou' r
  unfolding kind_w infer_kind expr_nodes
  fact_arm i F = arm i (λ x e. clash (cc e)) (λ d k T c at named s. (F.is d k named.0).is T c s tt)

  pub record_arm : {l : Items} → IsNode f w n (Node.Record l) → InfersRecord f w ou l left w' ou' r → InfersKind f w ou n left w' ou' r
  unfolding kind_w expr_nodes
  record_arm {l} i R = arm i (λ x e. clash (cc e))
      (λ d k T c at named s. (R.is d k n (fields_from f l 0 l.n) refl named (small_names s.sound at.there (kind_read s at.there i))).is T c s tt)

  pub subquery_arm : {head : ℕ} {body : Stmts} → IsNode f w n (Node.Subquery head body) → Subqueries f w ou head body left w' ou' r
      → InfersKind f w ou n left w' ou' r
  unfolding kind_w infer_kind expr_nodes
  subquery_arm {head} {body} i S = arm i (λ x e. clash (cc e))
      (λ d k T c at named s. (S.is d k (record { head = head; body = stmts_w f body }) refl named).is T c s tt)

  -- ---- Operands and branches
  pub arith_arm : {l : Items} → IsNode f w n (Node.Arith l) → InfersAll f w ou l Int left w' ou' r → InfersKind f w ou n left w' ou' r
  unfolding kind_w infer_kind expr_nodes all_with records_of fields_of
  arith_arm {l} i A = arm i (λ x e. clash (cc e)) (λ d k T c at named s.
      let es = items_from f l 0 l.n in
      ends_wider (omega arith) (omega arith) ((A.is d k es refl named).is T c
      (begins_part (visits (nodes_of d) k es) (parts (nodes_of d) k (ExprKind.Arith es))
      (record { grade = omega arith; records = omega arith; fields = omega arith }) s) (record { ok = tt; side = tt })))

  -- The unknown of a disjunction's type is new.
  pub disjunction_arm : {w₁ ou₁ : List ℕ} {x : ℕ} {l : Items} → Freshens f w ou left w₁ ou₁ x → IsNode f w n (Node.Disjunction l)
      → InfersAll f w₁ ou₁ l (Var x) left w' ou' r → InfersKind f w ou n left w' ou' r
  unfolding kind_w infer_kind expr_nodes all_with records_of fields_of disjunction
  disjunction_arm {w₁} {ou₁} {x} {l} new i A = arm i (λ x e. clash (cc e)) (λ d k T c at named s.
      let es = items_from f l 0 l.n in
      then_numbered (only one_unknown) (visits (nodes_of d) k es) (parts (nodes_of d) k (ExprKind.Disjunction es))
      (record { grade = omega arith; records = omega arith; fields = omega arith }) (λ v b. v < unknowns b) (fresh_var_id c)
      (λ v b. all_with d k (Tree.Var v) es b) s (λ y. fresh_var_id_meets c s.orderly) (λ s₁. (new d).is T c s₁ tt)
      (λ T₁ b a h. (A.is d k es refl named).is T₁ b a.begins (record { ok = ok_unknown a.begins.runs h; side = h })))

-- ---- A fuzzy pattern
pub term_there : {d : Described} {n x y : ℕ} → Sound d → n < length (nodes_of d) → (node_at (nodes_of d) n).kind ≡ ExprKind.Fuzzy x y
    → x < length d.schema.characters
unfolding node_at expr_names
term_there {d} {n} s there e = (rw e at (all_at (λ m. Below (length d.schema.characters) (expr_names m.kind)) (nodes_of d) n no_node
    s.names_below there)).0

pub fuzzy_arm : {f w ou w' ou' : List ℕ} {n left x y : ℕ} {r : Option (Ty × ℕ)} → IsNode f w n (Node.Fuzzy x y) → Fuzzes f w ou n x y left w' ou' r
    → InfersKind f w ou n left w' ou' r
unfolding kind_w infer_kind expr_nodes records_of fields_of sum_of fuzzy
fuzzy_arm {n = n} {x = x} {y = y} i F = arm i (λ z e. clash (cc e)) (λ d k T c at named s.
    let two = only (record { nodes = λ z. 0; unknowns = 0; diagnostics = 2 }) in
    let s₁ = begins_part two (parts (nodes_of d) k (ExprKind.Fuzzy x y)) (record { grade = omega arith; records = omega arith; fields = omega arith }) s in
    (F.is d at.there (term_there s.sound at.there (kind_read s at.there i))).is T c s₁ tt)
