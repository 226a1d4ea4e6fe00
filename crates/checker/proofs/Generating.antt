-- `generator`: the branches of a disjunction are generators in turn, and the last one's type is the node's; every other
-- node is inferred.
use mathlib.Core.List.{List, [], ◌∷◌}
use mathlib.Core.Path.{◌≡◌, refl}
use Prim.Native.Nat.{ℕ, zero, suc, ◌+◌, ◌-◌, ◌≤◌, ◌<◌}
use native.Mathlib.Omega.{arith}
use Rattle.unification.specs.Ty as Tree
use Rattle.unification.proofs.Tests.{clash}
use Rattle.cells.specs.declared.Ty.{Ty}
use Rattle.cells.specs.declared.Ty.TheVariants.{Error}
use Rattle.cells.specs.Stands.{Rows, tree}
use Rattle.format.specs.Syntax.{ExprKind, node_at}
use Rattle.format.specs.References.{expr_nodes}
use Rattle.format.specs.File.{Described}
use Rattle.meaning.specs.Check.{Checker, Step, goes, Does, and_then, Walk, walk, annotate, form_of, infer_at, generate_branches, generator_form, generator_at}
use Rattle.meaning.specs.Weights.{sum_of, weight}
use Rattle.meaning.specs.Grades.{one_node}
use Rattle.meaning.proofs.Steps.{IsSide}
use Rattle.meaning.proofs.Visits.{size_pos, generate_branches_meets}
use Rattle.tree.specs.declared.items.Items.{Items}
use Rattle.tree.specs.declared.Node.{Node}
use Rattle.tree.specs.Nodes.{item_w, items_from, kind_w, IsNode}
use Rattle.steps.specs.Ends.{typed, StepEnds}
use Rattle.steps.specs.Loads.{Load, only, both, FitsIn, infers, visits, Begins, Beside}
use Rattle.steps.specs.Promises.{nodes_of, Always, Fine, Notes, Named, AllNamed}
use Rattle.checker.specs.Promises.{below, Infers, Generates, Branches}
use Rattle.steps.proofs.Sequel.{Led}
use Rattle.steps.proofs.Results.{got_same, type_here, then_typed, stop_typed}
use Rattle.checker.proofs.Looping.{Midway, mid_start, mid_ends, mid_led, mid_after}
use Rattle.steps.proofs.Reading.{parts_named, kind_read, form_read}
use Rattle.checker.proofs.Inferring.{good, noted}
use Rattle.checker.proofs.Alls.{items_some, items_none}
use Rattle.std.specs.Prelude.{None, Option, Some, ℕ}

-- ---- Branches
abbrev pub branching : Described → ℕ → Tree.Ty → List ℕ → Does Tree.Ty
branching d k ty es = generate_branches d.schema (nodes_of d) (below d k) ty es

-- Midway, with the last branch's type in hand.
pub record Last (f w₀ ou₀ w ou : List ℕ) (T : Rows) (d : Described) (k : ℕ) (K : Load) (rest : ℕ) (c : Checker) (whole : Step Tree.Ty) (t : Ty)
    (es : List ℕ) : Type 0 where
  pub ty : Tree.Ty
  pub mid : Midway f w₀ ou₀ w ou T d K (visits (nodes_of d) k es) rest c whole (branching d k ty es)
  pub fine : Fine w t mid.T₁ mid.b
  pub is : tree mid.T₁ t ≡ ty

branch_fits : (d : Described) (k e : ℕ) (es : List ℕ) → FitsIn (both (infers (nodes_of d) k e) (visits (nodes_of d) k es)) (visits (nodes_of d) k (e ∷ es))
unfolding sum_of
branch_fits d k e es = record { grade = omega (arith, size_pos (nodes_of d) k e); records = omega arith; fields = omega arith }

module _ {f w₀ ou₀ w ou : List ℕ} {T : Rows} {d : Described} {K : Load} {rest : ℕ} {c : Checker} {whole : Step Tree.Ty} (k : ℕ) {t : Ty} where
  last_done : Last f w₀ ou₀ w ou T d k K rest c whole t [] → StepEnds f w₀ ou₀ w ou T d K.records K.fields (typed w (Some (t, rest))) whole
  unfolding generate_branches
  last_done L = let M = L.mid in mid_ends M (rw (← L.is) (type_here t M.begins.runs M.begins.lines M.begins.visits L.fine.ok))

  module _ {w' ou' : List ℕ} {e : ℕ} (es : List ℕ) {r : Option (Ty × ℕ)} (L : Last f w₀ ou₀ w ou T d k K rest c whole t (e ∷ es)) (named : Named d k e)
      (U : Generates f w ou e rest w' ou' r) where
    last_after : {u : Ty} {l : ℕ} → r ≡ Some (u, l) → Led f w ou w' ou' L.mid.T₁ d (infers (nodes_of d) k e) (typed w' r) IsSide L.mid.b
        ((below d k).generator e L.mid.b) → Last f w₀ ou₀ w' ou' T d k K l c whole u es
    unfolding generate_branches
    last_after {u} {l} g N =
        let i = got_same g N.gone.is in
        record {
          ty = N.a;
          mid = mid_after L.mid (infers (nodes_of d) k e) (visits (nodes_of d) k es) (branch_fits d k e es) IsSide
              ((below d k).generator e L.mid.b) N (λ ty. branching d k ty es) l refl i.2;
          fine = record { ok = i.0; side = rw i.1 N.went.holds };
          is = i.1;
        }

    last_on : {u : Ty} {l : ℕ} → r ≡ Some (u, l) → Last f w₀ ou₀ w' ou' T d k K l c whole u es
    last_on g =
        let M = L.mid in
        last_after g (mid_led M (infers (nodes_of d) k e) (visits (nodes_of d) k es) (branch_fits d k e es) IsSide ((below d k).generator e M.b)
        (λ o. clash (cc (g, o)))
        (λ y. (good M.begins k).generator e M.b M.begins.orderly y) (λ s. (U.is d k named).is M.T₁ M.b s tt))

    last_stop : r ≡ None → StepEnds f w₀ ou₀ w' ou' T d K.records K.fields (typed w' None) whole
    unfolding generate_branches
    last_stop g =
        let M = L.mid in
        mid_ends M (stop_typed (infers (nodes_of d) k e) (visits (nodes_of d) k es) (visits (nodes_of d) k (e ∷ es)) (branch_fits d k e es)
        ((below d k).generator e M.b) (λ ty. branching d k ty es) g refl M.begins
        (λ s. (U.is d k named).is M.T₁ M.b s tt))

pub record BranchesGoing (f w₀ ou₀ : List ℕ) (l : Items) (left : ℕ) (w ou : List ℕ) (t : Ty) (i rest : ℕ) : Type 0 where
  pub within : i ≤ l.n
  pub named : (d : Described) (k : ℕ) → AllNamed d k (items_from f l 0 l.n) → AllNamed d k (items_from f l i (l.n - i))
  pub to : (d : Described) (k : ℕ) (es : List ℕ) → es ≡ items_from f l 0 l.n → AllNamed d k es → (T : Rows) (c : Checker)
      → Begins f w₀ ou₀ T d (visits (nodes_of d) k es) left c
      → Last f w₀ ou₀ w ou T d k (visits (nodes_of d) k es) rest c (branching d k Tree.Error es c) t (items_from f l i (l.n - i))

pub branches_start : (f w : List ℕ) {ou : List ℕ} (l : Items) (left : ℕ) → BranchesGoing f w ou l left w ou Error 0 left
branches_start f w l left =
    let e : l.n - 0 ≡ l.n = omega arith in
    record {
      within = omega arith;
      named = λ d k h. rw e h;
      to = λ d k es q all T c s. rw (e, ← q)
          record {
            ty = Tree.Error;
            mid = mid_start (branching d k Tree.Error es c) (branching d k Tree.Error es) s refl;
            fine = record { ok = tt; side = tt };
            is = refl;
          };
    }

module _ {f w₀ ou₀ w ou : List ℕ} {l : Items} {t : Ty} {left i rest : ℕ} (A : BranchesGoing f w₀ ou₀ l left w ou t i rest) where
  pub branches_end : l.n ≤ i → Branches f w₀ ou₀ l left w ou (Some (t, rest))
  branches_end h = record { is = λ d k es q named. record { is = λ T c s u. last_done k (rw (items_none f l i h) at (A.to d k es q named T c s)) } }

  module _ (h : i < l.n) {w' ou' : List ℕ} {r : Option (Ty × ℕ)} (U : Generates f w ou (item_w f l i) rest w' ou' r) where
    first_named : (d : Described) (k : ℕ) → AllNamed d k (items_from f l 0 l.n) → AllNamed d k (item_w f l i ∷ items_from f l (i + 1) (l.n - (i + 1)))
    first_named d k all = rw (items_some f l i h) at (A.named d k all)

    pub branches_out : r ≡ None → Branches f w₀ ou₀ l left w' ou' None
    branches_out g = record {
      is = λ d k es q named. record {
        is = λ T c s u.
            last_stop k (items_from f l (i + 1) (l.n - (i + 1))) (rw (items_some f l i h) at (A.to d k es q named T c s))
            (first_named d k (rw q at named)).0 U g;
      };
    }

    pub branches_next : {u : Ty} {left' : ℕ} → r ≡ Some (u, left') → BranchesGoing f w₀ ou₀ l left w' ou' u (i + 1) left'
    branches_next g = record {
      within = omega arith;
      named = λ d k all. (first_named d k all).1;
      to = λ d k es q named T c s. last_on k (items_from f l (i + 1) (l.n - (i + 1))) (rw (items_some f l i h) at (A.to d k es q named T c s))
          (first_named d k (rw q at named)).0 U g;
    }

-- ---- `generator`
generates_fits : (d : Described) (k n : ℕ) (es : List ℕ) → (node_at (nodes_of d) n).kind ≡ ExprKind.Disjunction es
    → FitsIn (both (visits (nodes_of d) k es) (only (one_node n))) (infers (nodes_of d) (suc k) n)
unfolding weight expr_nodes
generates_fits d k n es e = rw e (record { grade = omega arith; records = omega arith; fields = omega arith })

-- Another node than a disjunction.
generator_other : (f : List ℕ) (nd : Node) → ((l : Items) → ¬ (nd ≡ Node.Disjunction l)) → (d : Described) (b : Walk) (n : ℕ) (c : Checker)
    → generator_form d.schema (nodes_of d) b n (form_of (kind_w f nd)) c ≡ infer_at d.schema (nodes_of d) b n c
unfolding kind_w form_of generator_form
generator_other f Node.Int h d b n c = refl
generator_other f Node.Str h d b n c = refl
generator_other f Node.Bytes h d b n c = refl
generator_other f (Node.Var x) h d b n c = refl
generator_other f Node.Wildcard h d b n c = refl
generator_other f Node.Never h d b n c = refl
generator_other f (Node.Prefix x) h d b n c = refl
generator_other f (Node.Fuzzy x y) h d b n c = refl
generator_other f (Node.Record l) h d b n c = refl
generator_other f (Node.Key x e) h d b n c = refl
generator_other f (Node.Value e) h d b n c = refl
generator_other f (Node.Disjunction l) h d b n c = absurd (h l refl)
generator_other f (Node.Subquery x q) h d b n c = refl
generator_other f (Node.Fact p e) h d b n c = refl
generator_other f (Node.Arith l) h d b n c = refl
generator_other f Node.Error h d b n c = refl
generator_other f (Node.Select x e) h d b n c = refl

module _ {f w ou w₁ ou₁ : List ℕ} {n left : ℕ} {r : Option (Ty × ℕ)} where
  pub generator_inferred : {nd : Node} → IsNode f w n nd → ((l : Items) → ¬ (nd ≡ Node.Disjunction l)) → Infers f w ou n left w₁ ou₁ r
      → Generates f w ou n left w₁ ou₁ r
  unfolding walk generator_at
  generator_inferred {nd} i h I = record { is = λ d k. at_depth d k }
    where
      at_depth : (d : Described) (k : ℕ) → Named d k n → Beside f w ou left w₁ ou₁ (typed w₁ r) d (infers (nodes_of d) k n) Always
          (λ T. (below d k).generator n)
      at_depth d zero m = absurd (omega (arith, m.under))
      at_depth d (suc k) m = record { is = λ T c s u. rw (form_read s m.there i, generator_other f nd h d (below d k) n c) ((I.is d (suc k) m).is T c s tt) }

  module _ {l : Items} (i : IsNode f w n (Node.Disjunction l)) (B : Branches f w ou l left w₁ ou₁ r) where
    abbrev items : List ℕ
    items = items_from f l 0 l.n

    branched : {T : Rows} {d : Described} {k : ℕ} {c : Checker} → Named d (suc k) n → Begins f w ou T d (infers (nodes_of d) (suc k) n) left c
        → Begins f w ou T d (visits (nodes_of d) k items) left c
        → StepEnds f w ou w₁ ou₁ T d (visits (nodes_of d) k items).records (visits (nodes_of d) k items).fields (typed w₁ r) (branching d k Tree.Error items c)
    unfolding kind_w expr_nodes
    branched {T} {d} {k} {c} m s s₁ = (B.is d k items refl
        (rw (kind_read s m.there i) at (parts_named s.sound m.there k (omega (arith, m.under))))).is T c s₁ tt

    pub generator_branched : {w₂ ou₂ : List ℕ} {t : Ty} {v : ℕ} → r ≡ Some (t, v) → Notes f w₁ ou₁ n t v w₂ ou₂
        → Generates f w ou n left w₂ ou₂ (Some (t, v))
    unfolding walk generator_at generator_form kind_w form_of
    generator_branched {w₂} {ou₂} {t} {v} g ann = record { is = λ d k. at_depth d k }
      where
        at_depth : (d : Described) (k : ℕ) → Named d k n → Beside f w ou left w₂ ou₂ (typed w₂ (Some (t, v))) d (infers (nodes_of d) k n) Always
            (λ T. (below d k).generator n)
        at_depth d zero m = absurd (omega (arith, m.under))
        at_depth d (suc k) m = record {
          is = λ T c s u.
              rw (form_read s m.there i) (then_typed (visits (nodes_of d) k items) (only (one_node n)) (infers (nodes_of d) (suc k) n)
              (generates_fits d k n items (kind_read s m.there i)) (branching d k Tree.Error items c)
              (λ ty b. and_then (annotate n ty b) (λ u e. goes ty e)) g s
              (λ y. generate_branches_meets d.schema (nodes_of d) s.sound.predicates k (below d k) (good s k) Tree.Error items c s.orderly y
              tt) (branched m s)
              (λ T₁ b a fine. noted m.there ann a.begins fine));
        }

    pub generator_out : r ≡ None → Generates f w ou n left w₁ ou₁ None
    unfolding walk generator_at generator_form kind_w form_of
    generator_out g = record { is = λ d k. at_depth d k }
      where
        at_depth : (d : Described) (k : ℕ) → Named d k n → Beside f w ou left w₁ ou₁ (typed w₁ None) d (infers (nodes_of d) k n) Always
            (λ T. (below d k).generator n)
        at_depth d zero m = absurd (omega (arith, m.under))
        at_depth d (suc k) m = record {
          is = λ T c s u.
              rw (form_read s m.there i) (stop_typed (visits (nodes_of d) k items) (only (one_node n)) (infers (nodes_of d) (suc k) n)
              (generates_fits d k n items (kind_read s m.there i)) (branching d k Tree.Error items c)
              (λ ty b. and_then (annotate n ty b) (λ u e. goes ty e)) g refl s (branched m s));
        }
