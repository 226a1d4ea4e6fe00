-- `bind` and `deny` by the form of the left side, `stmt`, the statements of a body one by one, and a subquery, whose
-- variables are gone after it.
use mathlib.Core.Bool.{Bool, true, false}
use mathlib.Core.List.{List, [], ◌∷◌}
use mathlib.Core.Logic.{◌⊎◌, inl, inr}
use mathlib.Core.Path.{◌≡◌, refl, sym, ◌∙◌, ap}
use Prim.Native.Nat.{ℕ, suc, ◌+◌, ◌-◌, ◌≤◌, ◌<◌}
use native.Mathlib.Omega.{arith}
use lib.Dec.{eqb}
use lib.ListN.{length, get_or, length-append}
use Rattle.unification.proofs.Tests.{clash}
use Rattle.cells.specs.declared.Ty.{Ty}
use Rattle.cells.specs.Words.{pick}
use Rattle.cells.specs.Stands.{Rows}
use Rattle.format.specs.Syntax.{QueryStmt, Query, ExprKind, is_destructurable}
use Rattle.format.specs.References.{stmt_nodes, query_nodes, expr_nodes}
use Rattle.format.specs.All.{All}
use Rattle.meaning.specs.Diag as Diag
use Rattle.format.specs.File.{Described}
use Rattle.meaning.specs.Check.{Checker, Step, goes, out, Does, and_then, Walk, NodeForm, a_wildcard, a_variable, a_constant, a_record, a_disjunction, an_error}
use Rattle.meaning.specs.Check.{another, form_of, bind_form, deny_form, generate, stmt, stmts, bad_target, only_right, not_yet, bind_wildcard, env_len, leave}
use Rattle.meaning.specs.Check.{subquery}
use Rattle.meaning.specs.Weights as Weights
use Rattle.meaning.specs.Weights.{sum_of}
use Rattle.meaning.specs.Grades.{Grade, Ready, no_thing, visiting}
use Rattle.meaning.proofs.Meets.{Made, Meets}
use Rattle.meaning.proofs.Steps.{Nothing}
use Rattle.meaning.proofs.Visits.{stmts_meets}
use Rattle.work.specs.Layout.{ENV-LEN}
use Rattle.state.proofs.Scoping.{runs_env_length}
use Rattle.sigla_hex.specs.Digits.{digits_w}
use Rattle.messages.specs.declared.Message.TheVariants as Message
use Rattle.tree.specs.declared.items.Items.{Items}
use Rattle.tree.specs.declared.items.Stmts.{Stmts}
use Rattle.tree.specs.declared.Node.{Node}
use Rattle.tree.specs.declared.Stmt.{Stmt}
use Rattle.tree.specs.Nodes.{kind_w, IsNode, statement, stmt_w, stmt_size_w, stmts_from, stmts_w}
use Rattle.tree.proofs.Below as Below
use Rattle.steps.specs.Ends.{typed, done, StepEnds}
use Rattle.steps.specs.Loads.{Load, only, both, FitsIn, infers, visits, parts, Begins}
use Rattle.steps.specs.Promises.{nodes_of, only_w, Leaves, Named, AllNamed, TellsDestructurable}
use Rattle.checker.specs.Promises.{below, Infers, Generates, Sides, BindsSides, Denies, Compares, NotYets, Destructures, BindsVariable, States}
use Rattle.checker.specs.Promises.{StatesAll, Subqueries}
use Rattle.checker.proofs.Within.{BadTargets, plainly}
use Rattle.steps.proofs.Sequel.{begins_part, ends_wider}
use Rattle.steps.proofs.Results.{on_here, then_typed, stop_typed, then_done, stop_done, only_ends, silent_on, done_typed}
use Rattle.checker.proofs.Looping.{Midway, mid_start, mid_ends, mid_led, mid_after}
use Rattle.steps.proofs.Reading.{kind_read, form_read, name_small}
use Rattle.checker.proofs.Inferring.{good}
use Rattle.checker.proofs.Stating.{OnlyRights, Wildcards}
use Rattle.std.specs.Prelude.{None, Option, Some, ℕ}

-- ---- `bind` and `deny`
module _ {f w ou w' ou' : List ℕ} {lhs rhs left : ℕ} {r : Option ℕ} {nd : Node} (i : IsNode f w lhs nd) (m : Described → Walk → ℕ → ℕ → Does (Unit {0})) where
  -- By the form that was read.
  pub bind_as : ((d : Described) (b : Walk) (c : Checker) → bind_form d.schema (nodes_of d) b (form_of (kind_w f nd)) lhs rhs c ≡ m d b lhs rhs c)
      → Sides m f w ou lhs rhs left w' ou' r → BindsSides f w ou lhs rhs left w' ou' r
  bind_as e S = record { is = λ d k nl nr. record { is = λ T c s u. rw (form_read s nl.there i, e d (below d k) c) ((S.is d k nl nr).is T c s tt) } }

  pub deny_as : ((d : Described) (b : Walk) (c : Checker) → deny_form d.schema (nodes_of d) b (form_of (kind_w f nd)) lhs rhs c ≡ m d b lhs rhs c)
      → Sides m f w ou lhs rhs left w' ou' r → Denies f w ou lhs rhs left w' ou' r
  deny_as e S = record { is = λ d k nl nr. record { is = λ T c s u. rw (form_read s nl.there i, e d (below d k) c) ((S.is d k nl nr).is T c s tt) } }

-- Left sides of which the binding comes later, in a binding and in a denial.
abbrev pub Later : NodeForm → Type 0
Later (a_disjunction es) = Unit {0}
Later another = Unit {0}
Later (a_record fs) = ⊥
Later a_wildcard = ⊥
Later (a_variable x) = ⊥
Later a_constant = ⊥
Later an_error = ⊥

abbrev pub DeniedLater : NodeForm → Type 0
DeniedLater (a_record fs) = Unit {0}
DeniedLater (a_disjunction es) = Unit {0}
DeniedLater another = Unit {0}
DeniedLater a_wildcard = ⊥
DeniedLater (a_variable x) = ⊥
DeniedLater a_constant = ⊥
DeniedLater an_error = ⊥

later_bind : (q : NodeForm) → Later q → (d : Described) (b : Walk) (x y : ℕ) (c : Checker)
    → bind_form d.schema (nodes_of d) b q x y c ≡ not_yet d.schema (nodes_of d) b Diag.matched_patterns x y c
unfolding bind_form
later_bind (a_disjunction es) h d b x y c = refl
later_bind another h d b x y c = refl
later_bind (a_record fs) h d b x y c = absurd h
later_bind a_wildcard h d b x y c = absurd h
later_bind (a_variable v) h d b x y c = absurd h
later_bind a_constant h d b x y c = absurd h
later_bind an_error h d b x y c = absurd h

later_deny : (q : NodeForm) → DeniedLater q → (d : Described) (b : Walk) (x y : ℕ) (c : Checker)
    → deny_form d.schema (nodes_of d) b q x y c ≡ not_yet d.schema (nodes_of d) b Diag.denied_pattern x y c
unfolding deny_form
later_deny (a_record fs) h d b x y c = refl
later_deny (a_disjunction es) h d b x y c = refl
later_deny another h d b x y c = refl
later_deny a_wildcard h d b x y c = absurd h
later_deny (a_variable v) h d b x y c = absurd h
later_deny a_constant h d b x y c = absurd h
later_deny an_error h d b x y c = absurd h

module _ {f w ou w' ou' : List ℕ} {lhs rhs left : ℕ} {r : Option ℕ} {nd : Node} (i : IsNode f w lhs nd) where
  pub bind_wildcard_lem : form_of (kind_w f nd) ≡ a_wildcard → Wildcards f w ou lhs rhs left w' ou' r → BindsSides f w ou lhs rhs left w' ou' r
  unfolding bind_form
  bind_wildcard_lem q S = bind_as i (λ d b x y. bind_wildcard d.schema (nodes_of d) b x y) (λ d b c. rw q refl) S

  pub bind_constant : form_of (kind_w f nd) ≡ a_constant → BadTargets Message.BoundConstant f w ou lhs rhs left w' ou' r
      → BindsSides f w ou lhs rhs left w' ou' r
  unfolding bind_form
  bind_constant q S = bind_as i (λ d b x y. bad_target d.schema (nodes_of d) b Diag.bound_constant x y) (λ d b c. rw q refl)
      (plainly Diag.bound_constant (λ T s. refl) tt S)

  pub bind_error : form_of (kind_w f nd) ≡ an_error → OnlyRights f w ou lhs rhs left w' ou' r → BindsSides f w ou lhs rhs left w' ou' r
  unfolding bind_form
  bind_error q S = bind_as i (λ d b x y. only_right d.schema (nodes_of d) b y) (λ d b c. rw q refl) S

  pub bind_later : Later (form_of (kind_w f nd)) → NotYets Message.MatchedPatterns f w ou lhs rhs left w' ou' r → BindsSides f w ou lhs rhs left w' ou' r
  bind_later h S =
      bind_as i (λ d b x y. not_yet d.schema (nodes_of d) b Diag.matched_patterns x y) (λ d b c. later_bind (form_of (kind_w f nd)) h d b lhs rhs c)
      (plainly Diag.matched_patterns (λ T s. refl) tt S)

  pub deny_error : form_of (kind_w f nd) ≡ an_error → OnlyRights f w ou lhs rhs left w' ou' r → Denies f w ou lhs rhs left w' ou' r
  unfolding deny_form
  deny_error q S = deny_as i (λ d b x y. only_right d.schema (nodes_of d) b y) (λ d b c. rw q refl) S

  pub deny_later : DeniedLater (form_of (kind_w f nd)) → NotYets Message.DeniedPattern f w ou lhs rhs left w' ou' r → Denies f w ou lhs rhs left w' ou' r
  deny_later h S = deny_as i (λ d b x y. not_yet d.schema (nodes_of d) b Diag.denied_pattern x y) (λ d b c. later_deny (form_of (kind_w f nd)) h d b lhs rhs c)
      (plainly Diag.denied_pattern (λ T s. refl) tt S)

-- A record is taken apart where that can be done.
module _ {f w ou w' ou' : List ℕ} {lhs rhs left : ℕ} {r : Option ℕ} {l : Items} (i : IsNode f w lhs (Node.Record l)) {b : Bool}
    (D : TellsDestructurable f w lhs b) where
  pub bind_apart : b ≡ true → Destructures f w ou lhs rhs left w' ou' r → BindsSides f w ou lhs rhs left w' ou' r
  unfolding kind_w form_of bind_form
  bind_apart e S = record {
    is = λ d k nl nr. record {
      is = λ T c s u.
          let q : is_destructurable (nodes_of d) lhs ≡ true = sym (D.is T d c s.sound s.runs nl.there) ∙ e in rw
          (form_read s nl.there i, q, bind_form) ((S.is d k nl nr).is T c s tt);
    };
  }

  pub bind_whole : b ≡ false → NotYets Message.MatchedPatterns f w ou lhs rhs left w' ou' r → BindsSides f w ou lhs rhs left w' ou' r
  unfolding kind_w form_of bind_form
  bind_whole e S = record {
    is = λ d k nl nr. record {
      is = λ T c s u.
          let q : is_destructurable (nodes_of d) lhs ≡ false = sym (D.is T d c s.sound s.runs nl.there) ∙ e in rw
          (form_read s nl.there i, q, bind_form) ((S.is d k nl nr).is T c s tt);
    };
  }

-- A variable, introduced before the right side is inferred.
module _ {f w ou w' ou' : List ℕ} {lhs rhs left x : ℕ} {r : Option ℕ} (i : IsNode f w lhs (Node.Var x)) (B : BindsVariable f w ou x lhs rhs left w' ou' r) where
  pub bind_variable_lem : BindsSides f w ou lhs rhs left w' ou' r
  unfolding kind_w form_of bind_form
  bind_variable_lem = record {
    is = λ d k nl nr. record
        { is = λ T c s u. rw (form_read s nl.there i) (((B.is (name_small s.sound nl.there (kind_read s nl.there i))).is d k nl nr).is T c s tt) };
  }

  pub deny_variable : Denies f w ou lhs rhs left w' ou' r
  unfolding kind_w form_of deny_form
  deny_variable = record {
    is = λ d k nl nr. record
        { is = λ T c s u. rw (form_read s nl.there i) (((B.is (name_small s.sound nl.there (kind_read s nl.there i))).is d k nl nr).is T c s tt) };
  }

-- ---- `stmt`
generated : {f w ou w' ou' : List ℕ} {left : ℕ} {r : Option (Ty × ℕ)} (n : ℕ) → Generates f w ou n left w' ou' r → (d : Described) (k : ℕ) → Named d k n
    → (T : Rows) (c : Checker) → Begins f w ou T d (visits (nodes_of d) k (n ∷ [])) left c
    → StepEnds f w ou w' ou' T d (visits (nodes_of d) k (n ∷ [])).records (visits (nodes_of d) k (n ∷ [])).fields (done (only_w r))
    (generate d.schema (nodes_of d) (below d k) n c)
unfolding generate sum_of
generated n G d k named T c s = ends_wider (omega arith) (omega arith) (only_ends ((below d k).generator n c)
    ((G.is d k named).is T c (begins_part (infers (nodes_of d) k n) (visits (nodes_of d) k (n ∷ []))
    (record { grade = omega arith; records = omega arith; fields = omega arith }) s) tt))

module _ {f w ou w' ou' : List ℕ} {at under left : ℕ} where
  pub stmt_implicit : {n : ℕ} {r : Option (Ty × ℕ)} → stmt_w f at under ≡ Stmt.Implicit n → Generates f w ou n left w' ou' r
      → States f w ou at under left w' ou' (only_w r)
  unfolding stmt stmt_nodes
  stmt_implicit {n} e G = record {
    is = λ d k s q named. record {
      is = λ T c b u.
          let z : s ≡ QueryStmt.Implicit n = q ∙ ap statement e in rw z (generated n G d k (rw z at named).0 T c (rw z at b));
    };
  }

  pub stmt_negation : {n : ℕ} {r : Option (Ty × ℕ)} → stmt_w f at under ≡ Stmt.Negation n → Generates f w ou n left w' ou' r
      → States f w ou at under left w' ou' (only_w r)
  unfolding stmt stmt_nodes
  stmt_negation {n} e G = record {
    is = λ d k s q named. record {
      is = λ T c b u.
          let z : s ≡ QueryStmt.Negation n = q ∙ ap statement e in rw z (generated n G d k (rw z at named).0 T c (rw z at b));
    };
  }

  -- Either is its node alone.
  pub stmt_visits : {n : ℕ} {s : Stmt} {r : Option (Ty × ℕ)} → s ≡ stmt_w f at under → (s ≡ Stmt.Implicit n) ⊎ (s ≡ Stmt.Negation n)
      → Generates f w ou n left w' ou' r → States f w ou at under left w' ou' (only_w r)
  stmt_visits p (inl e) G = stmt_implicit (sym p ∙ e) G
  stmt_visits p (inr e) G = stmt_negation (sym p ∙ e) G

  pub stmt_bind : {x y : ℕ} {r : Option ℕ} → stmt_w f at under ≡ Stmt.Bind x y → BindsSides f w ou x y left w' ou' r → States f w ou at under left w' ou' r
  unfolding stmt stmt_nodes
  stmt_bind {x} {y} e B = record {
    is = λ d k s q named. record {
      is = λ T c b u.
          let z : s ≡ QueryStmt.Bind x y = q ∙ ap statement e in let h = rw z at named in rw z ((B.is d k h.0 h.1.0).is T c (rw z at b) tt);
    };
  }

  pub stmt_deny : {x y : ℕ} {r : Option ℕ} → stmt_w f at under ≡ Stmt.Deny x y → Denies f w ou x y left w' ou' r → States f w ou at under left w' ou' r
  unfolding stmt stmt_nodes
  stmt_deny {x} {y} e B = record {
    is = λ d k s q named. record {
      is = λ T c b u.
          let z : s ≡ QueryStmt.Deny x y = q ∙ ap statement e in let h = rw z at named in rw z ((B.is d k h.0 h.1.0).is T c (rw z at b) tt);
    };
  }

  pub stmt_compare : {x y : ℕ} {r : Option ℕ} → stmt_w f at under ≡ Stmt.Compare x y → Compares f w ou x y left w' ou' r → States f w ou at under left w' ou' r
  unfolding stmt stmt_nodes
  stmt_compare {x} {y} e B = record {
    is = λ d k s q named. record {
      is = λ T c b u.
          let z : s ≡ QueryStmt.Compare x y = q ∙ ap statement e in let h = rw z at named in rw z ((B.is d k h.0 h.1.0).is T c (rw z at b) tt);
    };
  }

-- ---- The statements of a body
stmt_nodes_lem : (s : QueryStmt) (ss : List QueryStmt) → (P : ℕ → Type 0) → All P (stmt_nodes (s ∷ ss)) → All P (stmt_nodes (s ∷ [])) × All P (stmt_nodes ss)
unfolding stmt_nodes
stmt_nodes_lem (QueryStmt.Bind l r) ss P h = ((h.0, (h.1.0, tt)), h.1.1)
stmt_nodes_lem (QueryStmt.Deny l r) ss P h = ((h.0, (h.1.0, tt)), h.1.1)
stmt_nodes_lem (QueryStmt.Compare l r) ss P h = ((h.0, (h.1.0, tt)), h.1.1)
stmt_nodes_lem (QueryStmt.Implicit e) ss P h = ((h.0, tt), h.1)
stmt_nodes_lem (QueryStmt.Negation e) ss P h = ((h.0, tt), h.1)

stmt_sum : (s : QueryStmt) (ss : List QueryStmt) (g : ℕ → ℕ) → sum_of g (stmt_nodes (s ∷ ss)) ≡ sum_of g (stmt_nodes (s ∷ [])) + sum_of g (stmt_nodes ss)
unfolding stmt_nodes sum_of
stmt_sum (QueryStmt.Bind l r) ss g = omega arith
stmt_sum (QueryStmt.Deny l r) ss g = omega arith
stmt_sum (QueryStmt.Compare l r) ss g = omega arith
stmt_sum (QueryStmt.Implicit e) ss g = omega arith
stmt_sum (QueryStmt.Negation e) ss g = omega arith

stmt_fits : (d : Described) (k : ℕ) (s : QueryStmt) (ss : List QueryStmt)
    → FitsIn (both (visits (nodes_of d) k (stmt_nodes (s ∷ []))) (visits (nodes_of d) k (stmt_nodes ss))) (visits (nodes_of d) k (stmt_nodes (s ∷ ss)))
stmt_fits d k s ss =
    let size = stmt_sum s ss (λ n. Weights.size (nodes_of d) k n) in
    record {
      grade = record {
        nodes = λ x. omega (arith, stmt_sum s ss (λ n. Weights.weight (nodes_of d) (λ m. Weights.same x m) k n));
        unknowns = omega (arith, size);
        diagnostics = omega (arith, size);
      };
      records = omega (arith, stmt_sum s ss (λ n. Weights.records (nodes_of d) k n));
      fields = omega (arith, stmt_sum s ss (λ n. Weights.record_fields (nodes_of d) k n));
    }

and_then_unit : (m : Step (Unit {0})) → and_then m (λ u b. goes tt b) ≡ m
unfolding and_then
and_then_unit (goes u c) = refl
and_then_unit (out c) = refl

abbrev saying : Described → ℕ → QueryStmt → Does (Unit {0})
saying d k s = stmt d.schema (nodes_of d) (below d k) s

abbrev pub saying_all : Described → ℕ → List QueryStmt → Does (Unit {0})
saying_all d k ss = stmts d.schema (nodes_of d) (below d k) ss

stmt_meets : {f w ou : List ℕ} {T : Rows} {d : Described} {L : Load} {left : ℕ} {c : Checker} → Begins f w ou T d L left c → (k : ℕ) (s : QueryStmt)
    → Ready (visiting (nodes_of d) k (stmt_nodes (s ∷ []))) c
    → Meets Nothing (visiting (nodes_of d) k (stmt_nodes (s ∷ []))) c (saying d k s c)
unfolding stmts
stmt_meets {d = d} {c = c} b k s y = rw (← and_then_unit (saying d k s c))
    (stmts_meets d.schema (nodes_of d) b.sound.predicates k (below d k) (good b k) (s ∷ []) c b.orderly y)

module _ {f w₀ ou₀ w ou : List ℕ} {T : Rows} {d : Described} {K : Load} {rest : ℕ} {c : Checker} {whole : Step (Unit {0})} (k : ℕ) where
  stmts_done : Midway f w₀ ou₀ w ou T d K (visits (nodes_of d) k (stmt_nodes [])) rest c whole (saying_all d k [])
      → StepEnds f w₀ ou₀ w ou T d K.records K.fields (done (Some rest)) whole
  unfolding stmts
  stmts_done M = mid_ends M (on_here M.begins.runs M.begins.lines M.begins.visits)

  module _ {w' ou' : List ℕ} {at under : ℕ} {r : Option ℕ} (s : QueryStmt) (ss : List QueryStmt)
      (M : Midway f w₀ ou₀ w ou T d K (visits (nodes_of d) k (stmt_nodes (s ∷ ss))) rest c whole (saying_all d k (s ∷ ss)))
      (named : AllNamed d k (stmt_nodes (s ∷ []))) (q : s ≡ statement (stmt_w f at under)) (S : States f w ou at under rest w' ou' r) where
    stmts_on : {l : ℕ} → r ≡ Some l → Midway f w₀ ou₀ w' ou' T d K (visits (nodes_of d) k (stmt_nodes ss)) l c whole (saying_all d k ss)
    unfolding stmts
    stmts_on {l} g =
        let L = mid_led M (visits (nodes_of d) k (stmt_nodes (s ∷ []))) (visits (nodes_of d) k (stmt_nodes ss)) (stmt_fits d k s ss) Nothing
        (saying d k s M.b) (λ o. clash (cc (g, o)))
        (λ y. stmt_meets M.begins k s y) (λ b. (S.is d k s q named).is M.T₁ M.b b tt) in
        mid_after M (visits (nodes_of d) k (stmt_nodes (s ∷ []))) (visits (nodes_of d) k (stmt_nodes ss)) (stmt_fits d k s ss) Nothing
        (saying d k s M.b) L (λ u. saying_all d k ss) l refl (cc (g, L.gone.is))

    stmts_stop : r ≡ None → StepEnds f w₀ ou₀ w' ou' T d K.records K.fields (done None) whole
    unfolding stmts
    stmts_stop g = mid_ends M (stop_done (visits (nodes_of d) k (stmt_nodes (s ∷ []))) (visits (nodes_of d) k (stmt_nodes ss))
        (visits (nodes_of d) k (stmt_nodes (s ∷ ss))) (stmt_fits d k s ss) Nothing (saying d k s M.b)
        (λ u. saying_all d k ss) g refl M.begins (λ b. (S.is d k s q named).is M.T₁ M.b b tt))

-- The number of statements is bounded by the digits up to the end.
pub record StmtsGoing (f w₀ ou₀ : List ℕ) (body : Stmts) (left : ℕ) (w ou : List ℕ) (at rest : ℕ) : Type 0 where
  pub fuel : ℕ
  pub enough : body.end ≤ at + fuel
  pub named : (d : Described) (k : ℕ) → AllNamed d k (stmt_nodes (stmts_w f body)) → AllNamed d k (stmt_nodes (stmts_from fuel f at body.end body.below))
  pub to : (d : Described) (k : ℕ) (ss : List QueryStmt) → ss ≡ stmts_w f body → AllNamed d k (stmt_nodes ss) → (T : Rows) (c : Checker)
      → Begins f w₀ ou₀ T d (visits (nodes_of d) k (stmt_nodes ss)) left c
      → Midway f w₀ ou₀ w ou T d (visits (nodes_of d) k (stmt_nodes ss))
      (visits (nodes_of d) k (stmt_nodes (stmts_from fuel f at body.end body.below))) rest c (saying_all d k ss c)
      (saying_all d k (stmts_from fuel f at body.end body.below))

pub stmts_start : (f w : List ℕ) {ou : List ℕ} (body : Stmts) (left : ℕ) → StmtsGoing f w ou body left w ou body.at left
unfolding stmts_w
stmts_start f w body left = record {
  fuel = body.end;
  enough = omega arith;
  named = λ d k h. h;
  to = λ d k ss q all T c s. rw (← q) (mid_start (saying_all d k ss c) (saying_all d k ss) s refl);
}

size_some : (f : List ℕ) (at : ℕ) → 1 ≤ stmt_size_w f at
unfolding stmt_size_w
size_some f at = go (eqb (digits_w f at) 1) (eqb (digits_w f at) 2)
  where
    go : (a b : Bool) → 1 ≤ pick a 6 (pick b 6 10)
    go true b = omega arith
    go false true = omega arith
    go false false = omega arith

module _ {f w₀ ou₀ w ou : List ℕ} {body : Stmts} {left at rest : ℕ} (A : StmtsGoing f w₀ ou₀ body left w ou at rest) where
  pub stmts_end : body.end ≤ at → StatesAll f w₀ ou₀ body left w ou (Some rest)
  stmts_end h = record {
    is = λ d k ss q named. record
        { is = λ T c s u. stmts_done k (rw (Below.stmts_done f body.end body.below A.fuel at h) at (A.to d k ss q named T c s)) };
  }

  module _ (h : at < body.end) {w' ou' : List ℕ} {r : Option ℕ} (S : States f w ou at body.below rest w' ou' r) where
    abbrev less : ℕ
    less = A.fuel - 1

    first_rest : stmts_from A.fuel f at body.end body.below ≡ statement (stmt_w f at body.below) ∷ stmts_from less f (at + stmt_size_w f at)
        body.end body.below
    first_rest = let e : A.fuel ≡ suc (A.fuel - 1) = omega (arith, A.enough) in ap (λ n. stmts_from n f at body.end body.below) e
        ∙ Below.stmts_next f body.end body.below (A.fuel - 1) at h

    both_named : (d : Described) (k : ℕ) → AllNamed d k (stmt_nodes (stmts_w f body))
        → AllNamed d k (stmt_nodes (statement (stmt_w f at body.below) ∷ [])) × AllNamed d k
        (stmt_nodes (stmts_from less f (at + stmt_size_w f at) body.end body.below))
    both_named d k all = stmt_nodes_lem (statement (stmt_w f at body.below)) (stmts_from less f (at + stmt_size_w f at) body.end body.below)
        (Named d k) (rw first_rest at (A.named d k all))

    pub stmts_out : r ≡ None → StatesAll f w₀ ou₀ body left w' ou' None
    stmts_out g = record {
      is = λ d k ss q named. record {
        is = λ T c s u.
            stmts_stop k (statement (stmt_w f at body.below)) (stmts_from less f (at + stmt_size_w f at) body.end body.below)
            (rw first_rest at (A.to d k ss q named T c s)) (both_named d k (rw q at named)).0 refl S g;
      };
    }

    pub stmts_next : {left' : ℕ} → r ≡ Some left' → StmtsGoing f w₀ ou₀ body left w' ou' (at + stmt_size_w f at) left'
    stmts_next g = record {
      fuel = less;
      enough = omega (arith, A.enough, size_some f at);
      named = λ d k all. (both_named d k all).1;
      to = λ d k ss q named T c s. stmts_on k (statement (stmt_w f at body.below))
          (stmts_from less f (at + stmt_size_w f at) body.end body.below) (rw first_rest at (A.to d k ss q named T c s))
          (both_named d k (rw q at named)).0 refl S g;
    }

-- ---- A subquery
subquery_fits : (d : Described) (k : ℕ) (q : Query) → FitsIn (both (visits (nodes_of d) k (stmt_nodes q.body)) (infers (nodes_of d) k q.head))
    (parts (nodes_of d) k (ExprKind.Subquery q))
unfolding expr_nodes query_nodes sum_of
subquery_fits d k q = record { grade = omega arith; records = omega arith; fields = omega arith }

pub made_marks : (g : Grade) (c c' : Checker) → Made g c c' → length c.marks ≤ length c'.marks
made_marks g c c' m = omega (arith, ap length m.marks ∙ length-append m.marked c.marks)

pub made_env : (g : Grade) (c c' : Checker) → Made g c c' → length c.env ≤ length c'.env
made_env g c c' m = omega (arith, ap length m.env ∙ length-append m.pushed c.env)

module _ {f w ou w₁ ou₁ : List ℕ} {head left : ℕ} {body : Stmts} {x : Option ℕ} (D : StatesAll f w ou body left w₁ ou₁ x) where
  pub subquery_out : x ≡ None → Subqueries f w ou head body left w₁ ou₁ None
  unfolding subquery env_len expr_nodes query_nodes
  subquery_out g = record {
    is = λ d k q e named. record {
      is = λ T c s u.
          stop_done (visits (nodes_of d) k (stmt_nodes q.body)) (infers (nodes_of d) k q.head) (parts (nodes_of d) k (ExprKind.Subquery q))
          (subquery_fits d k q) Nothing (saying_all d k q.body c)
          (λ u b. and_then ((below d k).infer q.head b) (λ ty e. and_then (leave d.schema (nodes_of d) (length c.env) e) (λ u z. goes ty z))) g refl s
          (λ s₁. (D.is d k q.body (ap (λ z. z.body) e) named.1).is T c s₁ tt);
    };
  }

  module _ {l : ℕ} (g : x ≡ Some l) where
    subquery_then : {w₃ ou₃ : List ℕ} {r : Option (Ty × ℕ)}
        → ((d : Described) (k : ℕ) → Named d k head → (T₁ : Rows) (c b : Checker) → length c.env ≡ get_or w ENV-LEN 0
        → length c.env ≤ length b.env → Begins f w₁ ou₁ T₁ d (infers (nodes_of d) k head) l b
        → StepEnds f w₁ ou₁ w₃ ou₃ T₁ d (infers (nodes_of d) k head).records (infers (nodes_of d) k head).fields (typed w₃ r)
        (and_then ((below d k).infer head b) (λ ty e. and_then (leave d.schema (nodes_of d) (length c.env) e) (λ u z. goes ty z))))
        → Subqueries f w ou head body left w₃ ou₃ r
    unfolding subquery env_len expr_nodes query_nodes
    subquery_then next = record {
      is = λ d k q e named. record {
        is = λ T c s u.
            let h : q.head ≡ head = ap (λ z. z.head) e in
            then_done (visits (nodes_of d) k (stmt_nodes q.body)) (infers (nodes_of d) k q.head) (parts (nodes_of d) k (ExprKind.Subquery q))
            (subquery_fits d k q) Nothing (saying_all d k q.body c)
            (λ u b. and_then ((below d k).infer q.head b) (λ ty e. and_then (leave d.schema (nodes_of d) (length c.env) e) (λ u z. goes ty z))) g s
            (λ y. stmts_meets d.schema (nodes_of d) s.sound.predicates k (below d k) (good s k) q.body c s.orderly y)
            (λ s₁. (D.is d k q.body (ap (λ z. z.body) e) named.1).is T c s₁ tt)
            (λ T₁ b a. rw h (next d k (rw h at named.0) T₁ c b (runs_env_length s.runs) (made_env _ c b a.made) (rw h at a.begins)));
      };
    }

    pub subquery_ends : {scope : ℕ} {w₂ ou₂ w₃ ou₃ : List ℕ} {r : Option (Ty × ℕ)} {t : Ty} {v : ℕ} → Infers f w₁ ou₁ head l w₂ ou₂ r → r ≡ Some (t, v)
        → scope ≡ get_or w ENV-LEN 0 → Leaves f w₂ ou₂ scope w₃ ou₃
        → Subqueries f w ou head body left w₃ ou₃ (Some (t, v))
    subquery_ends {t = t} {v} I got z C = subquery_then (λ d k nh T₁ c b len up s₁.
        then_typed (infers (nodes_of d) k head) (only no_thing) (infers (nodes_of d) k head)
        (record { grade = omega arith; records = omega arith; fields = omega arith }) ((below d k).infer head b)
        (λ ty e. and_then (leave d.schema (nodes_of d) (length c.env) e) (λ u z. goes ty z)) got s₁ (λ y. (good s₁ k).infer head b s₁.orderly y)
        (λ s₂. (I.is d k nh).is T₁ b s₂ tt)
        (λ T₂ e a fine. done_typed t fine.ok (silent_on
        (rw (len ∙ sym z) ((C d v).is T₂ e a.begins (omega (arith, len, z, up, made_env _ b e a.made)))))))

    pub subquery_head_out : {w₂ ou₂ : List ℕ} {r : Option (Ty × ℕ)} → Infers f w₁ ou₁ head l w₂ ou₂ r → r ≡ None → Subqueries f w ou head body left w₂ ou₂ None
    subquery_head_out I none = subquery_then (λ d k nh T₁ c b len up s₁.
        stop_typed (infers (nodes_of d) k head) (only no_thing) (infers (nodes_of d) k head)
        (record { grade = omega arith; records = omega arith; fields = omega arith }) ((below d k).infer head b)
        (λ ty e. and_then (leave d.schema (nodes_of d) (length c.env) e) (λ u z. goes ty z)) none refl s₁ (λ s₂. (I.is d k nh).is T₁ b s₂ tt))
