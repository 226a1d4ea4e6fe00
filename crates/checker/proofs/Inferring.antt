-- `infer`: a node's kind gives its type, which is then noted. Each arm of `infer_kind` goes beside the definition's arm
-- of the kind that was read; a variable's arm also for one that the environment has.
use mathlib.Core.List.{List}
use mathlib.Core.Path.{◌≡◌, refl, sym, ◌∙◌}
use Prim.Native.Nat.{ℕ, zero, suc, ◌<◌}
use native.Mathlib.Omega.{arith}
use lib.ListN.{length}
use Rattle.unification.specs.Ty as Tree
use Rattle.unification.proofs.Tests.{clash}
use Rattle.cells.specs.declared.Ty.{Ty}
use Rattle.cells.specs.declared.Ty.TheVariants.{Int, Str, Bytes, Var, Error}
use Rattle.cells.specs.Stands.{Rows, tree, Ok}
use Rattle.format.specs.Syntax.{ExprKind, node_at}
use Rattle.format.specs.References.{expr_nodes}
use Rattle.format.specs.File.{Described}
use Rattle.meaning.specs.Check.{Checker, goes, and_then, fresh_var_id, fresh_var, introduce, annotate, infer_kind, infer_at, kind, Walk, walk}
use Rattle.meaning.specs.Weights.{same, sum_of, weight, records_of, fields_of}
use Rattle.meaning.specs.Grades.{unknowns, Orderly, no_thing, one_unknown, one_node, Known}
use Rattle.meaning.proofs.Meets.{Meets, meets_from, went_with}
use Rattle.meaning.proofs.Steps.{Nothing, IsSide, IsUnknown, annotate_meets, fresh_var_id_meets, introduce_meets, introduce_known}
use Rattle.meaning.proofs.Visits.{Good, infer_kind_meets, walk_good, own_weight}
use Rattle.state.specs.Runs.{Runs}
use Rattle.tree.specs.declared.Node.{Node}
use Rattle.tree.specs.Nodes.{kind_w, IsNode}
use Rattle.steps.specs.Ends.{typed, numbered, StepEnds}
use Rattle.steps.specs.Loads.{Load, only, both, FitsIn, infers, finds, parts, Begins, Beside}
use Rattle.steps.specs.Promises.{nodes_of, Always, Fine, Notes, Freshens, Brings, Named, AllNamed, NodeAt}
use Rattle.checker.specs.Promises.{below, Infers, InfersKind}
use Rattle.steps.proofs.Sequel.{begins_part}
use Rattle.steps.proofs.Results.{tree_after, fine_after, type_here, then_typed, stop_typed, then_silent, then_numbered}
use Rattle.steps.proofs.Reading.{parts_named, kind_read, name_small}
use Rattle.std.specs.Prelude.{None, Option, Some, ℕ}

pub good : {f w ou : List ℕ} {T : Rows} {d : Described} {L : Load} {left : ℕ} {c : Checker} → Begins f w ou T d L left c → (k : ℕ)
    → Good (nodes_of d) k (below d k)
good {d = d} b k = walk_good d.schema (nodes_of d) b.sound.predicates k

-- ---- A type is noted

pub noted : {f w ou w' ou' : List ℕ} {T : Rows} {d : Described} {n left : ℕ} {c : Checker} {t : Ty} → n < length (nodes_of d)
    → Notes f w ou n t left w' ou' → Begins f w ou T d (only (one_node n)) left c → Fine w t T c
    → StepEnds f w ou w' ou' T d 0 0 (typed w' (Some (t, left))) (and_then (annotate n (tree T t) c) (λ u b. goes (tree T t) b))
noted {T = T} {d = d} {n = n} {c = c} {t = t} there ann s fine =
    then_silent (only (one_node n)) (only no_thing) (only (one_node n)) (record { grade = omega arith; records = omega arith; fields = omega arith })
    Nothing (annotate n (tree T t) c) (λ u b. goes (tree T t) b) s
    (λ y. annotate_meets n (tree T t) c s.orderly y fine.side) (λ s₁. (ann d there).is T c s₁ fine)
    (λ T₁ b a u. rw (← tree_after a t fine.ok) (type_here t a.begins.runs a.begins.lines a.begins.visits (fine_after a t fine).ok))

-- ---- `infer`
module _ {f w ou w₁ ou₁ : List ℕ} {n left : ℕ} {r : Option (Ty × ℕ)} (i : InfersKind f w ou n left w₁ ou₁ r) where
  at_node : {d : Described} {k : ℕ} → Named d (suc k) n → NodeAt d k n
  at_node h = record { there = h.there; above = omega (arith, h.under) }

  infers_fits : (d : Described) (k : ℕ) → FitsIn (both (parts (nodes_of d) k (node_at (nodes_of d) n).kind) (only (one_node n))) (infers (nodes_of d) (suc k) n)
  unfolding weight
  infers_fits d k = record { grade = omega arith; records = omega arith; fields = omega arith }

  finds_fits : (d : Described) (k : ℕ) → FitsIn (both (only no_thing) (only (one_node n))) (finds (nodes_of d) (suc k) n)
  finds_fits d k = record {
    grade = record { nodes = λ x. omega (arith, own_weight (nodes_of d) (λ m. same x m) (suc k) n); unknowns = omega arith; diagnostics = omega arith };
    records = omega arith;
    fields = omega arith;
  }

  -- What a variable that is known meets, without its annotation.
  found_meets : (d : Described) (k x : ℕ) (c : Checker) → (node_at (nodes_of d) n).kind ≡ ExprKind.Var x → Orderly c → Known x c
      → Meets IsSide no_thing c (infer_kind d.schema (nodes_of d) (below d k) n (node_at (nodes_of d) n).kind c)
  unfolding infer_kind
  found_meets d k x c e o h = rw e (meets_from (IsUnknown x) IsSide no_thing no_thing c (introduce n x c) _ (omega arith) (introduce_known n x c o h)
      (λ v b w. went_with IsSide (Tree.Var v) w w.holds.0))

  pub infer_typed : {w₂ ou₂ : List ℕ} {t : Ty} {l : ℕ} → r ≡ Some (t, l) → Notes f w₁ ou₁ n t l w₂ ou₂ → Infers f w ou n left w₂ ou₂ (Some (t, l))
  unfolding walk infer_at kind
  infer_typed {w₂} {ou₂} {t} {l} e ann = record { is = λ d k. at_depth d k; found = λ d k x. at_found d k x }
    where
      at_depth : (d : Described) (k : ℕ) → Named d k n → Beside f w ou left w₂ ou₂ (typed w₂ (Some (t, l))) d (infers (nodes_of d) k n) Always
          (λ T. (below d k).infer n)
      at_depth d zero h = absurd (omega (arith, h.under))
      at_depth d (suc k) h = record {
        is = λ T c s u.
            then_typed (parts (nodes_of d) k (node_at (nodes_of d) n).kind) (only (one_node n)) (infers (nodes_of d) (suc k) n) (infers_fits d k)
            (infer_kind d.schema (nodes_of d) (below d k) n (node_at (nodes_of d) n).kind c) _ e s
            (λ y. infer_kind_meets d.schema (nodes_of d) s.sound.predicates k (below d k) (good s k) n (node_at (nodes_of d) n).kind c
            s.orderly y) (λ s₁. (i.is d k (at_node h)).is T c s₁ tt)
            (λ T₁ b a fine. noted h.there ann a.begins fine);
      }

      at_found : (d : Described) (k x : ℕ) → Named d k n → (node_at (nodes_of d) n).kind ≡ ExprKind.Var x
          → Beside f w ou left w₂ ou₂ (typed w₂ (Some (t, l))) d (finds (nodes_of d) k n) (λ T c. Known x c) (λ T. (below d k).infer n)
      at_found d zero x h q = absurd (omega (arith, h.under))
      at_found d (suc k) x h q = record {
        is = λ T c s known.
            then_typed (only no_thing) (only (one_node n)) (finds (nodes_of d) (suc k) n) (finds_fits d k)
            (infer_kind d.schema (nodes_of d) (below d k) n (node_at (nodes_of d) n).kind c) _ e s
            (λ y. found_meets d k x c q s.orderly known) (λ s₁. (i.found d k x (at_node h) q).is T c s₁ known)
            (λ T₁ b a fine. noted h.there ann a.begins fine);
      }

  pub infer_out : r ≡ None → Infers f w ou n left w₁ ou₁ None
  unfolding walk infer_at kind
  infer_out e = record { is = λ d k. at_depth d k; found = λ d k x. at_found d k x }
    where
      at_depth : (d : Described) (k : ℕ) → Named d k n → Beside f w ou left w₁ ou₁ (typed w₁ None) d (infers (nodes_of d) k n) Always
          (λ T. (below d k).infer n)
      at_depth d zero h = absurd (omega (arith, h.under))
      at_depth d (suc k) h = record {
        is = λ T c s u.
            stop_typed (parts (nodes_of d) k (node_at (nodes_of d) n).kind) (only (one_node n)) (infers (nodes_of d) (suc k) n) (infers_fits d k)
            (infer_kind d.schema (nodes_of d) (below d k) n (node_at (nodes_of d) n).kind c) _ e refl s
            (λ s₁. (i.is d k (at_node h)).is T c s₁ tt);
      }

      at_found : (d : Described) (k x : ℕ) → Named d k n → (node_at (nodes_of d) n).kind ≡ ExprKind.Var x
          → Beside f w ou left w₁ ou₁ (typed w₁ None) d (finds (nodes_of d) k n) (λ T c. Known x c) (λ T. (below d k).infer n)
      at_found d zero x h q = absurd (omega (arith, h.under))
      at_found d (suc k) x h q = record {
        is = λ T c s known.
            stop_typed (only no_thing) (only (one_node n)) (finds (nodes_of d) (suc k) n) (finds_fits d k)
            (infer_kind d.schema (nodes_of d) (below d k) n (node_at (nodes_of d) n).kind c) _ e refl s
            (λ s₁. (i.found d k x (at_node h) q).is T c s₁ known);
      }

-- ---- The arms of `infer_kind`
module _ {f w ou w' ou' : List ℕ} {n left : ℕ} {res : Option (Ty × ℕ)} {nd : Node} (i : IsNode f w n nd) where
  -- A kind that is no variable.
  pub arm : ((x : ℕ) → ¬ (kind_w f nd ≡ ExprKind.Var x))
      → ((d : Described) (k : ℕ) (T : Rows) (c : Checker) → NodeAt d k n → AllNamed d k (expr_nodes (kind_w f nd))
      → Begins f w ou T d (parts (nodes_of d) k (kind_w f nd)) left c
      → StepEnds f w ou w' ou' T d (parts (nodes_of d) k (kind_w f nd)).records (parts (nodes_of d) k (kind_w f nd)).fields (typed w' res)
      (infer_kind d.schema (nodes_of d) (below d k) n (kind_w f nd) c))
      → InfersKind f w ou n left w' ou' res
  arm other h = record {
    is = λ d k at. record {
      is = λ T c s u. let q = kind_read s at.there i in rw q
          (h d k T c at (rw q at (parts_named s.sound at.there k at.above)) (rw q at s));
    };
    found = λ d k x at e. record { is = λ T c s known. absurd (other x (sym (kind_read s at.there i) ∙ e)) };
  }

-- A type that needs no step.
pub leaf_arm : {f w ou : List ℕ} {n left : ℕ} {nd : Node} (t : Ty) → IsNode f w n nd → Ok w t → ((x : ℕ) → ¬ (kind_w f nd ≡ ExprKind.Var x))
    → ((d : Described) (b : Walk) (T : Rows) (c : Checker) → infer_kind d.schema (nodes_of d) b n (kind_w f nd) c ≡ goes (tree T t) c)
    → InfersKind f w ou n left w ou (Some (t, left))
leaf_arm t i o other is = arm i other (λ d k T c at named s. rw (is d (below d k) T c) (type_here t s.runs s.lines s.visits o))

module _ {f w ou : List ℕ} {n left : ℕ} where
  pub int_arm : IsNode f w n Node.Int → InfersKind f w ou n left w ou (Some (Int, left))
  unfolding kind_w infer_kind
  int_arm i = leaf_arm Int i tt (λ x e. clash (cc e)) (λ d b T c. refl)

  pub bytes_arm : IsNode f w n Node.Bytes → InfersKind f w ou n left w ou (Some (Bytes, left))
  unfolding kind_w infer_kind
  bytes_arm i = leaf_arm Bytes i tt (λ x e. clash (cc e)) (λ d b T c. refl)

  pub str_arm : IsNode f w n Node.Str → InfersKind f w ou n left w ou (Some (Str, left))
  unfolding kind_w infer_kind
  str_arm i = leaf_arm Str i tt (λ x e. clash (cc e)) (λ d b T c. refl)

  pub prefix_arm : {x : ℕ} → IsNode f w n (Node.Prefix x) → InfersKind f w ou n left w ou (Some (Str, left))
  unfolding kind_w infer_kind
  prefix_arm i = leaf_arm Str i tt (λ x e. clash (cc e)) (λ d b T c. refl)

  pub error_arm : IsNode f w n Node.Error → InfersKind f w ou n left w ou (Some (Error, left))
  unfolding kind_w infer_kind
  error_arm i = leaf_arm Error i tt (λ x e. clash (cc e)) (λ d b T c. refl)

-- ---- A new unknown
pub ok_unknown : {f w : List ℕ} {T : Rows} {d : Described} {c : Checker} {x : ℕ} → Runs f w T d c → x < unknowns c → Ok w (Var x)
ok_unknown r h = omega (arith, h, r.holds.binds.unknowns)

fresh_ends : {f w ou w' ou' : List ℕ} {T : Rows} {d : Described} {left x : ℕ} {c : Checker} → Freshens f w ou left w' ou' x
    → Begins f w ou T d (only one_unknown) left c
    → StepEnds f w ou w' ou' T d 0 0 (typed w' (Some ((Var x), left))) (fresh_var c)
unfolding fresh_var
fresh_ends {T = T} {d = d} {x = x} {c = c} new s =
    then_numbered (only one_unknown) (only no_thing) (only one_unknown) (record { grade = omega arith; records = omega arith; fields = omega arith })
    (λ v b. v < unknowns b) (fresh_var_id c) (λ v b. goes (Tree.Var v) b) s
    (λ y. fresh_var_id_meets c s.orderly) (λ s₁. (new d).is T c s₁ tt)
    (λ T₁ b a h. type_here (Var x) a.begins.runs a.begins.lines a.begins.visits (ok_unknown a.begins.runs h))

pub fresh_fits : (d : Described) (k : ℕ) (kd : ExprKind) → FitsIn (only one_unknown) (parts (nodes_of d) k kd)
fresh_fits d k kd = record { grade = omega arith; records = omega arith; fields = omega arith }

module _ {f w ou w' ou' : List ℕ} {n left x : ℕ} (new : Freshens f w ou left w' ou' x) where
  pub wildcard_arm : IsNode f w n Node.Wildcard → InfersKind f w ou n left w' ou' (Some ((Var x), left))
  unfolding kind_w infer_kind expr_nodes records_of fields_of sum_of
  wildcard_arm i = arm i (λ x e. clash (cc e))
      (λ d k T c at named s. fresh_ends new (begins_part (only one_unknown) (parts (nodes_of d) k ExprKind.Wildcard) (fresh_fits d k ExprKind.Wildcard) s))

  pub never_arm : IsNode f w n Node.Never → InfersKind f w ou n left w' ou' (Some ((Var x), left))
  unfolding kind_w infer_kind expr_nodes records_of fields_of sum_of
  never_arm i = arm i (λ x e. clash (cc e))
      (λ d k T c at named s. fresh_ends new (begins_part (only one_unknown) (parts (nodes_of d) k ExprKind.Never) (fresh_fits d k ExprKind.Never) s))

-- ---- A variable
introduced_ends : {f w ou w' ou' : List ℕ} {T : Rows} {d : Described} {left v : ℕ} {c : Checker} (n x : ℕ) (G : Load) → Begins f w ou T d G left c
    → Meets (IsUnknown x) G.grade c (introduce n x c)
    → (Begins f w ou T d G left c → StepEnds f w ou w' ou' T d G.records G.fields (numbered v left) (introduce n x c))
    → StepEnds f w ou w' ou' T d G.records G.fields (typed w' (Some ((Var v), left))) (and_then (introduce n x c) (λ v b. goes (Tree.Var v) b))
introduced_ends {v = v} {c = c} n x G s meets first =
    then_numbered G (only no_thing) G (record { grade = omega arith; records = omega arith; fields = omega arith }) (IsUnknown x) (introduce n x c)
    (λ v b. goes (Tree.Var v) b) s (λ y. meets) first
    (λ T₁ b a h. type_here (Var v) a.begins.runs a.begins.lines a.begins.visits (ok_unknown a.begins.runs h.0))

pub variable_arm : {f w ou w' ou' : List ℕ} {n left x v : ℕ} → Brings f w ou n x left w' ou' v → IsNode f w n (Node.Var x)
    → InfersKind f w ou n left w' ou' (Some ((Var v), left))
unfolding kind_w infer_kind expr_nodes records_of fields_of sum_of
variable_arm {f} {w} {ou} {w'} {ou'} {n} {left} {x} {v} new i = record {
  is = λ d k at. record {
    is = λ T c s u.
        let q = kind_read s at.there i in
        let s₁ = begins_part (only one_unknown) (parts (nodes_of d) k (ExprKind.Var x)) (fresh_fits d k (ExprKind.Var x)) (rw q at s) in
        rw q (introduced_ends n x (only one_unknown) s₁ (introduce_meets n x c s.orderly)
        (λ s₂. (new.is d (name_small s.sound at.there q) at.there).is T c s₂ tt));
  };
  found = λ d k y at e. record {
    is = λ T c s known.
        let q = kind_read s at.there i in
        let same : x ≡ y = cc (q, e) in
        let known' : Known x c = rw same known in
        rw q (introduced_ends n x (only no_thing) s (introduce_known n x c s.orderly known')
        (λ s₂. (new.found d (name_small s.sound at.there q) at.there).is T c s₂ known'));
  };
}
