-- `infer_all`: each operand or branch is inferred and unified with one type. A turn of the loop is one step of the
-- definition's list; what it gives from item i on, from here, is what it gives on all from the start.
use mathlib.Core.List.{List, [], ◌∷◌}
use mathlib.Core.Path.{◌≡◌, refl}
use Prim.Native.Nat.{ℕ, suc, ◌+◌, ◌-◌, ◌≤◌, ◌<◌}
use native.Mathlib.Omega.{arith}
use Rattle.unification.specs.Ty as Tree
use Rattle.unification.proofs.Tests.{clash}
use Rattle.cells.specs.declared.Ty.{Ty}
use Rattle.cells.specs.Stands.{Rows, tree}
use Rattle.format.specs.File.{Described}
use Rattle.meaning.specs.Check.{Checker, Step, goes, and_then, infer_all, unify_at}
use Rattle.meaning.specs.Weights.{sum_of}
use Rattle.meaning.specs.Grades.{Ready, one_diagnostic, inferring, visiting}
use Rattle.meaning.proofs.Meets.{Meets, meets_then, made_side}
use Rattle.meaning.proofs.Steps.{Nothing, IsSide, unify_at_meets}
use Rattle.meaning.proofs.Visits.{size_pos}
use Rattle.tree.specs.declared.items.Items.{Items}
use Rattle.tree.specs.Nodes.{item_w, items_from}
use Rattle.steps.specs.Ends.{typed, done, StepEnds}
use Rattle.steps.specs.Loads.{Load, only, both, FitsIn, infers, visits, Begins, Beside}
use Rattle.steps.specs.Promises.{nodes_of, Fine, UnifiesAt, Named, AllNamed}
use Rattle.checker.specs.Promises.{below, Infers, InfersAll, all_with}
use Rattle.steps.proofs.Sequel.{and_then_first}
use Rattle.steps.proofs.Results.{fine_after, tree_after, type_here, then_typed, stop_typed, stop_done}
use Rattle.checker.proofs.Looping.{Midway, mid_start, mid_tree, mid_fine, mid_ends, mid_led, mid_after}
use Rattle.checker.proofs.Inferring.{good}
use Rattle.std.specs.Prelude.{None, Option, Some, ℕ}

-- ---- Lists of items
pub items_some : (f : List ℕ) (l : Items) (i : ℕ) → i < l.n → items_from f l i (l.n - i) ≡ item_w f l i ∷ items_from f l (i + 1) (l.n - (i + 1))
unfolding items_from
items_some f l i h = let e : l.n - i ≡ suc (l.n - (i + 1)) = omega arith in rw e refl

pub items_none : (f : List ℕ) (l : Items) (i : ℕ) → l.n ≤ i → items_from f l i (l.n - i) ≡ []
unfolding items_from
items_none f l i h = let e : l.n - i ≡ 0 = omega arith in rw e refl

-- ---- A turn
pub record Turn (f w ou : List ℕ) (e : ℕ) (t : Ty) (left : ℕ) (w' ou' : List ℕ) (r : Option ℕ) : Type 0 where
  pub is : (d : Described) (k : ℕ) → Named d k e
      → Beside f w ou left w' ou' (done r) d (visits (nodes_of d) k (e ∷ [])) (Fine w t)
      (λ T c. and_then ((below d k).infer e c) (λ ty. unify_at d.schema (nodes_of d) e ty (tree T t)))

turn_fits : (d : Described) (k e : ℕ) → FitsIn (both (infers (nodes_of d) k e) (only one_diagnostic)) (visits (nodes_of d) k (e ∷ []))
unfolding sum_of
turn_fits d k e = record { grade = omega (arith, size_pos (nodes_of d) k e); records = omega arith; fields = omega arith }

module _ {f w ou w₁ ou₁ : List ℕ} {e left : ℕ} {t : Ty} {r : Option (Ty × ℕ)} (I : Infers f w ou e left w₁ ou₁ r) where
  pub turn_unified : {w₂ ou₂ : List ℕ} {u : Ty} {l : ℕ} {x : Option ℕ} → r ≡ Some (u, l) → UnifiesAt f w₁ ou₁ e u t l w₂ ou₂ x → Turn f w ou e t left w₂ ou₂ x
  turn_unified {u = u} g U = record {
    is = λ d k named. record {
      is = λ T c s fine.
          then_typed (infers (nodes_of d) k e) (only one_diagnostic) (visits (nodes_of d) k (e ∷ [])) (turn_fits d k e) ((below d k).infer e c)
          (λ ty. unify_at d.schema (nodes_of d) e ty (tree T t)) g s
          (λ y. (good s k).infer e c s.orderly y) (λ s₁. (I.is d k named).is T c s₁ tt)
          (λ T₁ b a fine₁. rw (← tree_after a t fine.ok) ((U.is d named.there).is T₁ b a.begins (fine₁, fine_after a t fine)));
    };
  }

  pub turn_out : r ≡ None → Turn f w ou e t left w₁ ou₁ None
  turn_out g = record {
    is = λ d k named. record {
      is = λ T c s fine.
          stop_typed (infers (nodes_of d) k e) (only one_diagnostic) (visits (nodes_of d) k (e ∷ [])) (turn_fits d k e) ((below d k).infer e c)
          (λ ty. unify_at d.schema (nodes_of d) e ty (tree T t)) g refl s
          (λ s₁. (I.is d k named).is T c s₁ tt);
    };
  }

turn_meets : {f w ou : List ℕ} {T : Rows} {d : Described} {L : Load} {left : ℕ} {c : Checker} (k e : ℕ) (t : Ty) → Begins f w ou T d L left c
    → Fine w t T c → Ready (visiting (nodes_of d) k (e ∷ [])) c
    → Meets Nothing (visiting (nodes_of d) k (e ∷ [])) c (and_then ((below d k).infer e c) (λ ty. unify_at d.schema (nodes_of d) e ty (tree T t)))
turn_meets {T = T} {d = d} {c = c} k e t s fine y =
    meets_then IsSide Nothing (inferring (nodes_of d) k e) one_diagnostic (visiting (nodes_of d) k (e ∷ [])) c (turn_fits d k e).grade
    ((below d k).infer e c) (λ ty. unify_at d.schema (nodes_of d) e ty (tree T t)) y
    ((good s k).infer e c s.orderly)
    (λ ty b v y'. unify_at_meets d.schema (nodes_of d) e ty (tree T t) b v.orderly y' v.holds (made_side _ c b (tree T t) v.made fine.side))

-- ---- The loop

-- One more item is one turn, and then the rest.
all_some : (d : Described) (k : ℕ) (t : Tree.Ty) (e : ℕ) (es : List ℕ) (c : Checker)
    → all_with d k t (e ∷ es) c ≡ and_then (and_then ((below d k).infer e c) (λ ty. unify_at d.schema (nodes_of d) e ty t)) (λ u. all_with d k t es)
unfolding all_with infer_all
all_some d k t e es c = and_then_first ((below d k).infer e c) (λ ty. unify_at d.schema (nodes_of d) e ty t)
    (λ u. infer_all d.schema (nodes_of d) (below d k) t es) (λ u b. goes t b)

pub some_fits : (d : Described) (k e : ℕ) (es : List ℕ) → FitsIn (both (visits (nodes_of d) k (e ∷ [])) (visits (nodes_of d) k es))
    (visits (nodes_of d) k (e ∷ es))
unfolding sum_of
some_fits d k e es = record { grade = omega arith; records = omega arith; fields = omega arith }

module _ {f w₀ ou₀ w ou : List ℕ} {T : Rows} {d : Described} {K : Load} {rest : ℕ} {c : Checker} {whole : Step Tree.Ty} (k : ℕ) (t : Ty)
    (fine : Fine w₀ t T c) where
  all_done : Midway f w₀ ou₀ w ou T d K (visits (nodes_of d) k []) rest c whole (all_with d k (tree T t) [])
      → StepEnds f w₀ ou₀ w ou T d K.records K.fields (typed w (Some (t, rest))) whole
  unfolding all_with infer_all
  all_done M = mid_ends M (rw (← mid_tree M t fine.ok) (type_here t M.begins.runs M.begins.lines M.begins.visits (mid_fine M t fine).ok))

  module _ {w' ou' : List ℕ} {e : ℕ} (es : List ℕ) {r : Option ℕ}
      (M : Midway f w₀ ou₀ w ou T d K (visits (nodes_of d) k (e ∷ es)) rest c whole (all_with d k (tree T t) (e ∷ es))) (named : Named d k e)
      (U : Turn f w ou e t rest w' ou' r) where
    turn_ends : Begins f w ou M.T₁ d (visits (nodes_of d) k (e ∷ [])) rest M.b
        → StepEnds f w ou w' ou' M.T₁ d (visits (nodes_of d) k (e ∷ [])).records (visits (nodes_of d) k (e ∷ [])).fields (done r)
        (and_then ((below d k).infer e M.b) (λ ty. unify_at d.schema (nodes_of d) e ty (tree T t)))
    turn_ends s = rw (← mid_tree M t fine.ok) ((U.is d k named).is M.T₁ M.b s (mid_fine M t fine))

    all_on : {l : ℕ} → r ≡ Some l → Midway f w₀ ou₀ w' ou' T d K (visits (nodes_of d) k es) l c whole (all_with d k (tree T t) es)
    all_on {l} g =
        let m = and_then ((below d k).infer e M.b) (λ ty. unify_at d.schema (nodes_of d) e ty (tree T t)) in
        let L = mid_led M (visits (nodes_of d) k (e ∷ [])) (visits (nodes_of d) k es) (some_fits d k e es) Nothing m (λ o. clash (cc (g, o)))
        (λ y. rw (← mid_tree M t fine.ok) (turn_meets k e t M.begins (mid_fine M t fine) y)) turn_ends in
        mid_after M (visits (nodes_of d) k (e ∷ [])) (visits (nodes_of d) k es) (some_fits d k e es) Nothing m L (λ u. all_with d k (tree T t) es) l
        (all_some d k (tree T t) e es M.b) (cc (g, L.gone.is))

    all_stop : r ≡ None → StepEnds f w₀ ou₀ w' ou' T d K.records K.fields (typed w' None) whole
    all_stop g = mid_ends M (rw (all_some d k (tree T t) e es M.b)
        (stop_done (visits (nodes_of d) k (e ∷ [])) (visits (nodes_of d) k es) (visits (nodes_of d) k (e ∷ es)) (some_fits d k e es) Nothing
        (and_then ((below d k).infer e M.b) (λ ty. unify_at d.schema (nodes_of d) e ty (tree T t))) (λ u. all_with d k (tree T t) es) g refl
        M.begins turn_ends))

pub record AllGoing (f w₀ ou₀ : List ℕ) (l : Items) (t : Ty) (left : ℕ) (w ou : List ℕ) (i rest : ℕ) : Type 0 where
  pub within : i ≤ l.n
  pub named : (d : Described) (k : ℕ) → AllNamed d k (items_from f l 0 l.n) → AllNamed d k (items_from f l i (l.n - i))
  pub to : (d : Described) (k : ℕ) (es : List ℕ) → es ≡ items_from f l 0 l.n → AllNamed d k es → (T : Rows) (c : Checker)
      → Begins f w₀ ou₀ T d (visits (nodes_of d) k es) left c → Fine w₀ t T c
      → Midway f w₀ ou₀ w ou T d (visits (nodes_of d) k es) (visits (nodes_of d) k (items_from f l i (l.n - i))) rest c (all_with d k (tree T t) es c)
      (all_with d k (tree T t) (items_from f l i (l.n - i)))

pub all_start : (f w : List ℕ) {ou : List ℕ} (l : Items) (t : Ty) (left : ℕ) → AllGoing f w ou l t left w ou 0 left
all_start f w l t left =
    let e : l.n - 0 ≡ l.n = omega arith in
    record {
      within = omega arith;
      named = λ d k h. rw e h;
      to = λ d k es q all T c s fine. rw (e, ← q)
          (mid_start (all_with d k (tree T t) es c) (all_with d k (tree T t) es) s refl);
    }

module _ {f w₀ ou₀ w ou : List ℕ} {l : Items} {t : Ty} {left i rest : ℕ} (A : AllGoing f w₀ ou₀ l t left w ou i rest) where
  pub all_end : l.n ≤ i → InfersAll f w₀ ou₀ l t left w ou (Some (t, rest))
  all_end h = record { is = λ d k es q named. record { is = λ T c s fine. all_done k t fine (rw (items_none f l i h) at (A.to d k es q named T c s fine)) } }

  module _ (h : i < l.n) {w' ou' : List ℕ} {r : Option ℕ} (U : Turn f w ou (item_w f l i) t rest w' ou' r) where
    first_named : (d : Described) (k : ℕ) → AllNamed d k (items_from f l 0 l.n) → AllNamed d k (item_w f l i ∷ items_from f l (i + 1) (l.n - (i + 1)))
    first_named d k all = rw (items_some f l i h) at (A.named d k all)

    pub all_out : r ≡ None → InfersAll f w₀ ou₀ l t left w' ou' None
    all_out g = record {
      is = λ d k es q named. record {
        is = λ T c s fine. all_stop k t fine (items_from f l (i + 1) (l.n - (i + 1))) (rw (items_some f l i h) at (A.to d k es q named T c s fine))
            (first_named d k (rw q at named)).0 U g;
      };
    }

    pub all_next : {left' : ℕ} → r ≡ Some left' → AllGoing f w₀ ou₀ l t left w' ou' (i + 1) left'
    all_next g = record {
      within = omega arith;
      named = λ d k all. (first_named d k all).1;
      to = λ d k es q named T c s fine. all_on k t fine (items_from f l (i + 1) (l.n - (i + 1)))
          (rw (items_some f l i h) at (A.to d k es q named T c s fine)) (first_named d k (rw q at named)).0 U g;
    }
