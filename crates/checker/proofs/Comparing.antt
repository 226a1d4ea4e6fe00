-- `compare`: each side that is a variable is introduced first, so that it is found when the side is inferred; then the
-- types are compared. An unknown is paid for once: early where the side is a variable, and else when it is inferred.
use mathlib.Core.List.{List, [], ◌∷◌}
use mathlib.Core.Path.{◌≡◌, refl}
use Prim.Native.Nat.{ℕ}
use native.Mathlib.Omega.{arith}
use Rattle.cells.specs.declared.Ty.{Ty}
use Rattle.cells.specs.Stands.{Rows, tree}
use Rattle.format.specs.Syntax.{node_at}
use Rattle.format.specs.File.{Described}
use Rattle.meaning.specs.Check.{Checker, and_then, NodeForm, a_wildcard, a_variable, a_constant, a_record, a_disjunction, an_error, another, form, kind}
use Rattle.meaning.specs.Check.{introduce_side, compare}
use Rattle.meaning.specs.Weights.{sum_of, size, records, record_fields}
use Rattle.meaning.specs.Grades.{one_diagnostic, introducing}
use Rattle.meaning.proofs.Visits.{size_pos, late, early_late, inferring_late, Introduced, made_introduced, introduce_side_meets, infer_late, variable_kind}
use Rattle.steps.specs.Ends.{typed, done, StepEnds}
use Rattle.steps.specs.Loads.{Load, only, both, FitsIn, visits, Begins}
use Rattle.steps.specs.Promises.{nodes_of, BringsSide, compare_types, ComparesTypes, Named}
use Rattle.checker.specs.Promises.{below, Infers, Compares}
use Rattle.steps.proofs.Results.{fine_after, tree_after, then_typed, stop_typed, then_silent}
use Rattle.checker.proofs.Inferring.{good}
use Rattle.std.specs.Prelude.{None, Option, Some, ℕ}

abbrev lates : Described → ℕ → ℕ → NodeForm → Load
lates d k n q = record { grade = inferring_late (nodes_of d) k n q; records = records (nodes_of d) k n; fields = record_fields (nodes_of d) k n }

abbrev form_at : Described → ℕ → NodeForm
form_at d n = form d.schema (nodes_of d) n

late_ends : {f w ou w' ou' : List ℕ} {n left : ℕ} {r : Option (Ty × ℕ)} {T : Rows} {d : Described} {c : Checker} (k : ℕ) (q : NodeForm) → form_at d n ≡ q
    → Infers f w ou n left w' ou' r → Named d k n → Begins f w ou T d (lates d k n q) left c → Introduced q c
    → StepEnds f w ou w' ou' T d (records (nodes_of d) k n) (record_fields (nodes_of d) k n) (typed w' r) ((below d k).infer n c)
unfolding form kind late
late_ends {n = n} {T = T} {d = d} {c = c} k (a_variable x) e I named s h = (I.found d k x named (variable_kind (node_at (nodes_of d) n).kind x e)).is T c s h
late_ends {T = T} {d = d} {c = c} k a_wildcard e I named s h = (I.is d k named).is T c s tt
late_ends {T = T} {d = d} {c = c} k a_constant e I named s h = (I.is d k named).is T c s tt
late_ends {T = T} {d = d} {c = c} k (a_record fs) e I named s h = (I.is d k named).is T c s tt
late_ends {T = T} {d = d} {c = c} k (a_disjunction es) e I named s h = (I.is d k named).is T c s tt
late_ends {T = T} {d = d} {c = c} k an_error e I named s h = (I.is d k named).is T c s tt
late_ends {T = T} {d = d} {c = c} k another e I named s h = (I.is d k named).is T c s tt

-- ---- What is left after each step
abbrev last : Described → ℕ → ℕ → Load
last d k rhs = both (lates d k rhs (form_at d rhs)) (only one_diagnostic)

abbrev sides : Described → ℕ → ℕ → ℕ → Load
sides d k lhs rhs = both (lates d k lhs (form_at d lhs)) (last d k rhs)

all_fits : (d : Described) (k lhs rhs : ℕ) → FitsIn
    (both (only (introducing (form_at d lhs))) (both (only (introducing (form_at d rhs))) (sides d k lhs rhs))) (visits (nodes_of d) k (lhs ∷ rhs ∷ []))
unfolding sum_of
all_fits d k lhs rhs = record {
  grade = omega (
    arith,
    size_pos (nodes_of d) k lhs,
    size_pos (nodes_of d) k rhs,
    early_late (form_at d lhs) (size (nodes_of d) k lhs) (size_pos (nodes_of d) k lhs),
    early_late (form_at d rhs) (size (nodes_of d) k rhs) (size_pos (nodes_of d) k rhs),
  );
  records = omega arith;
  fields = omega arith;
}

as_it_is : (G H : Load) → FitsIn (both G H) (both G H)
as_it_is G H = record { grade = omega arith; records = omega arith; fields = omega arith }

module _ {f w ou w₁ ou₁ w₂ ou₂ w₃ ou₃ : List ℕ} {lhs rhs left : ℕ} {r : Option (Ty × ℕ)} (A : BringsSide f w ou lhs left w₁ ou₁)
    (B : BringsSide f w₁ ou₁ rhs left w₂ ou₂) (I : Infers f w₂ ou₂ lhs left w₃ ou₃ r) where
  -- Both sides are introduced.
  introduced : {w₄ ou₄ : List ℕ} {x : Option ℕ} →
      ((d : Described) (k : ℕ) → Named d k lhs → Named d k rhs → (T : Rows) (c : Checker) → Begins f w₂ ou₂ T d (sides d k lhs rhs) left c
      → Introduced (form_at d lhs) c → Introduced (form_at d rhs) c
      → StepEnds f w₂ ou₂ w₄ ou₄ T d (sides d k lhs rhs).records (sides d k lhs rhs).fields (done x)
      (and_then ((below d k).infer lhs c) (λ a b. and_then ((below d k).infer rhs b) (λ y. compare_types d lhs rhs a y))))
      → Compares f w ou lhs rhs left w₄ ou₄ x
  unfolding compare compare_types
  introduced next = record {
    is = λ d k nl nr. record {
      is = λ T c s u.
          then_silent (only (introducing (form_at d lhs))) (both (only (introducing (form_at d rhs))) (sides d k lhs rhs))
          (visits (nodes_of d) k (lhs ∷ rhs ∷ [])) (all_fits d k lhs rhs) (λ u b. Introduced (form_at d lhs) b)
          (introduce_side d.schema (nodes_of d) lhs (form_at d lhs) c)
          (λ u b. and_then (introduce_side d.schema (nodes_of d) rhs (form_at d rhs) b)
          (λ u e. and_then ((below d k).infer lhs e) (λ a g. and_then ((below d k).infer rhs g) (λ y. compare_types d lhs rhs a y)))) s
          (λ y. introduce_side_meets d.schema (nodes_of d) lhs (form_at d lhs) c s.orderly) (λ s₁. (A d nl.there).is T c s₁ tt)
          (λ T₁ b a h. then_silent (only (introducing (form_at d rhs))) (sides d k lhs rhs)
          (both (only (introducing (form_at d rhs))) (sides d k lhs rhs)) (as_it_is (only (introducing (form_at d rhs))) (sides d k lhs rhs))
          (λ u e. Introduced (form_at d rhs) e)
          (introduce_side d.schema (nodes_of d) rhs (form_at d rhs) b)
          (λ u e. and_then ((below d k).infer lhs e) (λ a g. and_then ((below d k).infer rhs g) (λ y. compare_types d lhs rhs a y))) a.begins
          (λ y. introduce_side_meets d.schema (nodes_of d) rhs (form_at d rhs) b a.begins.orderly) (λ s₂. (B d nr.there).is T₁ b s₂ tt)
          (λ T₂ e a₂ h₂. next d k nl nr T₂ e a₂.begins (made_introduced _ b e (form_at d lhs) a₂.made h) h₂));
    };
  }

  pub compare_left_out : r ≡ None → Compares f w ou lhs rhs left w₃ ou₃ None
  compare_left_out g = introduced (λ d k nl nr T c s h h₂.
      stop_typed (lates d k lhs (form_at d lhs)) (last d k rhs) (sides d k lhs rhs) (as_it_is (lates d k lhs (form_at d lhs)) (last d k rhs))
      ((below d k).infer lhs c)
      (λ a b. and_then ((below d k).infer rhs b) (λ y. compare_types d lhs rhs a y)) g refl s (λ s₁. late_ends k (form_at d lhs) refl I nl s₁ h))

  module _ {t : Ty} {l : ℕ} (g : r ≡ Some (t, l)) {w₄ ou₄ : List ℕ} {y : Option (Ty × ℕ)} (J : Infers f w₃ ou₃ rhs l w₄ ou₄ y) where
    pub compare_right_out : y ≡ None → Compares f w ou lhs rhs left w₄ ou₄ None
    compare_right_out z = introduced (λ d k nl nr T c s h h₂.
        then_typed (lates d k lhs (form_at d lhs)) (last d k rhs) (sides d k lhs rhs) (as_it_is (lates d k lhs (form_at d lhs)) (last d k rhs))
        ((below d k).infer lhs c)
        (λ a b. and_then ((below d k).infer rhs b) (λ y. compare_types d lhs rhs a y)) g s
        (λ x. infer_late d.schema (nodes_of d) s.sound.predicates k (below d k) (good s k) lhs (form_at d lhs) c refl s.orderly x h)
        (λ s₁. late_ends k (form_at d lhs) refl I nl s₁ h)
        (λ T₁ b a fine. stop_typed (lates d k rhs (form_at d rhs)) (only one_diagnostic) (last d k rhs)
        (as_it_is (lates d k rhs (form_at d rhs)) (only one_diagnostic)) ((below d k).infer rhs b)
        (λ y. compare_types d lhs rhs (tree T₁ t) y) z refl a.begins
        (λ s₂. late_ends k (form_at d rhs) refl J nr s₂ (made_introduced _ c b (form_at d rhs) a.made h₂))))

    pub compare_types_lem : {u : Ty} {v : ℕ} {w₅ ou₅ : List ℕ} {x : Option ℕ} → y ≡ Some (u, v) → ComparesTypes f w₄ ou₄ lhs rhs t u v w₅ ou₅ x
        → Compares f w ou lhs rhs left w₅ ou₅ x
    compare_types_lem {u} z C = introduced (λ d k nl nr T c s h h₂.
        then_typed (lates d k lhs (form_at d lhs)) (last d k rhs) (sides d k lhs rhs) (as_it_is (lates d k lhs (form_at d lhs)) (last d k rhs))
        ((below d k).infer lhs c)
        (λ a b. and_then ((below d k).infer rhs b) (λ y. compare_types d lhs rhs a y)) g s
        (λ x. infer_late d.schema (nodes_of d) s.sound.predicates k (below d k) (good s k) lhs (form_at d lhs) c refl s.orderly x h)
        (λ s₁. late_ends k (form_at d lhs) refl I nl s₁ h)
        (λ T₁ b a fine. let known = made_introduced _ c b (form_at d rhs) a.made h₂ in
        then_typed (lates d k rhs (form_at d rhs)) (only one_diagnostic) (last d k rhs) (as_it_is (lates d k rhs (form_at d rhs)) (only one_diagnostic))
        ((below d k).infer rhs b)
        (λ y. compare_types d lhs rhs (tree T₁ t) y) z a.begins
        (λ x. infer_late d.schema (nodes_of d) s.sound.predicates k (below d k) (good s k) rhs (form_at d rhs) b refl a.begins.orderly x known)
        (λ s₂. late_ends k (form_at d rhs) refl J nr s₂ known)
        (λ T₂ e a₂ fine₂. rw (← tree_after a₂ t fine.ok) ((C.is d nl.there nr.there).is T₂ e a₂.begins (fine_after a₂ t fine, fine₂)))))
