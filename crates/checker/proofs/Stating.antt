-- Statements over two nodes: each is a short list of steps, the loads of which the two nodes' visits hold.
use mathlib.Core.List.{List, [], ◌∷◌}
use mathlib.Core.Path.{◌≡◌, refl}
use Prim.Native.Nat.{ℕ}
use native.Mathlib.Omega.{arith}
use Rattle.unification.specs.Ty as Tree
use Rattle.cells.specs.declared.Ty.{Ty}
use Rattle.cells.specs.declared.Ty.TheVariants.{Var}
use Rattle.cells.specs.Stands.{Rows, tree}
use Rattle.format.specs.File.{Described}
use Rattle.meaning.specs.Check.{Checker, and_then, introduce, annotate, reject, unify_at, bind_variable, bad_target, only_right, not_yet, destructure}
use Rattle.meaning.specs.Check.{bind_wildcard}
use Rattle.meaning.specs.Weights.{same, sum_of}
use Rattle.meaning.specs.Grades.{one_diagnostic, one_unknown, one_node}
use Rattle.meaning.proofs.Steps.{Nothing, IsUnknown, reject_meets, introduce_meets, annotate_meets}
use Rattle.meaning.proofs.Visits.{size_pos, own_weight}
use Rattle.messages.specs.declared.Message.{Message}
use Rattle.messages.specs.Said.{said}
use Rattle.steps.specs.Ends.{done, StepEnds}
use Rattle.steps.specs.Loads.{Load, only, both, FitsIn, infers, visits, Begins}
use Rattle.steps.specs.Promises.{nodes_of, Fine, Notes, Rejects, Brings, UnifiesAt, only_w, Named}
use Rattle.checker.specs.Promises.{below, Infers, Sides, NotYets, Destructures, BindsVariable}
use Rattle.checker.proofs.Within.{BadTargets}
use Rattle.steps.proofs.Sequel.{begins_part, ends_wider}
use Rattle.steps.proofs.Results.{fine_after, tree_after, then_typed, stop_typed, then_done, stop_done, then_silent, then_numbered, only_ends, silent_on}
use Rattle.checker.proofs.Inferring.{good, ok_unknown}
use Rattle.std.specs.Prelude.{None, Option, Some, ℕ}

-- ---- The right side alone
abbrev pub OnlyRights : List ℕ → List ℕ → List ℕ → ℕ → ℕ → ℕ → List ℕ → List ℕ → Option ℕ → Type 0
OnlyRights f w ou lhs rhs left w' ou' r = Sides (λ d b x y. only_right d.schema (nodes_of d) b y) f w ou lhs rhs left w' ou' r

right_ends : {f w ou w' ou' : List ℕ} {rhs left : ℕ} {r : Option (Ty × ℕ)} {T : Rows} {d : Described} {k : ℕ} {c : Checker} → Infers f w ou rhs left w' ou' r
    → Named d k rhs → Begins f w ou T d (infers (nodes_of d) k rhs) left c
    → StepEnds f w ou w' ou' T d (infers (nodes_of d) k rhs).records (infers (nodes_of d) k rhs).fields (done (only_w r))
    (only_right d.schema (nodes_of d) (below d k) rhs c)
unfolding only_right
right_ends {rhs = rhs} {T = T} {d = d} {k = k} {c = c} I named s = only_ends ((below d k).infer rhs c) ((I.is d k named).is T c s tt)

right_fits : (d : Described) (k lhs rhs : ℕ) → FitsIn (both (only one_diagnostic) (infers (nodes_of d) k rhs)) (visits (nodes_of d) k (lhs ∷ rhs ∷ []))
unfolding sum_of
right_fits d k lhs rhs = record { grade = omega (arith, size_pos (nodes_of d) k lhs); records = omega arith; fields = omega arith }

pub only_right_lem : {f w ou w' ou' : List ℕ} {lhs rhs left : ℕ} {r : Option (Ty × ℕ)} → Infers f w ou rhs left w' ou' r
    → OnlyRights f w ou lhs rhs left w' ou' (only_w r)
unfolding sum_of
only_right_lem {lhs = lhs} {rhs = rhs} I = record {
  is = λ d k nl nr. record {
    is = λ T c s u.
        ends_wider (omega arith) (omega arith) (right_ends I nr
        (begins_part (infers (nodes_of d) k rhs) (visits (nodes_of d) k (lhs ∷ rhs ∷ []))
        (record { grade = omega arith; records = omega arith; fields = omega arith }) s));
  };
}

-- ---- A target that can't be
module _ {f w ou w₁ ou₁ : List ℕ} {lhs rhs left : ℕ} {m : Message} {x : Option ℕ} (R : Rejects f w ou lhs m left w₁ ou₁ x) where
  pub bad_target_lem : {w₂ ou₂ : List ℕ} {l : ℕ} {r : Option (Ty × ℕ)} → x ≡ Some l → Infers f w₁ ou₁ rhs l w₂ ou₂ r
      → BadTargets m f w ou lhs rhs left w₂ ou₂ (only_w r)
  unfolding bad_target only_right
  bad_target_lem g I = record {
    is = λ d k nl nr. record {
      is = λ T c s ok.
          then_done (only one_diagnostic) (infers (nodes_of d) k rhs) (visits (nodes_of d) k (lhs ∷ rhs ∷ [])) (right_fits d k lhs rhs) Nothing
          (reject d.schema (nodes_of d) lhs (said T c.state.subst m) c)
          (λ u. only_right d.schema (nodes_of d) (below d k) rhs) g s
          (λ y. reject_meets d.schema (nodes_of d) lhs (said T c.state.subst m) c s.orderly) (λ s₁. (R d nl.there).is T c s₁ ok)
          (λ T₁ b a. right_ends I nr a.begins);
    };
  }

  pub bad_target_out : x ≡ None → BadTargets m f w ou lhs rhs left w₁ ou₁ None
  unfolding bad_target only_right
  bad_target_out g = record {
    is = λ d k nl nr. record {
      is = λ T c s ok.
          stop_done (only one_diagnostic) (infers (nodes_of d) k rhs) (visits (nodes_of d) k (lhs ∷ rhs ∷ [])) (right_fits d k lhs rhs) Nothing
          (reject d.schema (nodes_of d) lhs (said T c.state.subst m) c)
          (λ u. only_right d.schema (nodes_of d) (below d k) rhs) g refl s (λ s₁. (R d nl.there).is T c s₁ ok);
    };
  }

-- ---- Not yet
abbrev two : Described → ℕ → ℕ → ℕ → Load
two d k lhs rhs = both (infers (nodes_of d) k lhs) (infers (nodes_of d) k rhs)

both_fits : (d : Described) (k lhs rhs : ℕ) → FitsIn (both (only one_diagnostic) (both (infers (nodes_of d) k lhs) (infers (nodes_of d) k rhs)))
    (visits (nodes_of d) k (lhs ∷ rhs ∷ []))
unfolding sum_of
both_fits d k lhs rhs = record { grade = omega (arith, size_pos (nodes_of d) k lhs); records = omega arith; fields = omega arith }

pub not_yet_stops : {f w ou w₁ ou₁ : List ℕ} {lhs rhs left : ℕ} {m : Message} {x : Option ℕ} → Rejects f w ou lhs m left w₁ ou₁ x → x ≡ None
    → NotYets m f w ou lhs rhs left w₁ ou₁ None
unfolding not_yet only_right
not_yet_stops {lhs = lhs} {rhs = rhs} {m = m} R h = record {
  is = λ d k nl nr. record {
    is = λ T c s ok.
        stop_done (only one_diagnostic) (two d k lhs rhs) (visits (nodes_of d) k (lhs ∷ rhs ∷ [])) (both_fits d k lhs rhs) Nothing
        (reject d.schema (nodes_of d) lhs (said T c.state.subst m) c)
        (λ u b. and_then ((below d k).infer lhs b) (λ ty. only_right d.schema (nodes_of d) (below d k) rhs)) h refl s (λ s₁. (R d nl.there).is T c s₁ ok);
  };
}

module _ {f w ou w₁ ou₁ w₂ ou₂ : List ℕ} {lhs rhs left v : ℕ} {m : Message} {x : Option ℕ} {r : Option (Ty × ℕ)} (R : Rejects f w ou lhs m left w₁ ou₁ x)
    (h : x ≡ Some v) (I : Infers f w₁ ou₁ lhs v w₂ ou₂ r) where
  pub not_yet_lem : {w₃ ou₃ : List ℕ} {t : Ty} {l : ℕ} {y : Option (Ty × ℕ)} → r ≡ Some (t, l) → Infers f w₂ ou₂ rhs l w₃ ou₃ y
      → NotYets m f w ou lhs rhs left w₃ ou₃ (only_w y)
  unfolding not_yet only_right
  not_yet_lem g J = record {
    is = λ d k nl nr. record {
      is = λ T c s ok.
          then_done (only one_diagnostic) (two d k lhs rhs) (visits (nodes_of d) k (lhs ∷ rhs ∷ [])) (both_fits d k lhs rhs) Nothing
          (reject d.schema (nodes_of d) lhs (said T c.state.subst m) c)
          (λ u b. and_then ((below d k).infer lhs b) (λ ty. only_right d.schema (nodes_of d) (below d k) rhs)) h s
          (λ y. reject_meets d.schema (nodes_of d) lhs (said T c.state.subst m) c s.orderly) (λ s₁. (R d nl.there).is T c s₁ ok)
          (λ T₁ b a. then_typed (infers (nodes_of d) k lhs) (infers (nodes_of d) k rhs) (two d k lhs rhs)
          (record { grade = omega arith; records = omega arith; fields = omega arith }) ((below d k).infer lhs b)
          (λ ty. only_right d.schema (nodes_of d) (below d k) rhs) g a.begins
          (λ y. (good s k).infer lhs b a.begins.orderly y) (λ s₂. (I.is d k nl).is T₁ b s₂ tt) (λ T₂ b₂ a₂ fine. right_ends J nr a₂.begins));
    };
  }

  pub not_yet_out : r ≡ None → NotYets m f w ou lhs rhs left w₂ ou₂ None
  unfolding not_yet only_right
  not_yet_out g = record {
    is = λ d k nl nr. record {
      is = λ T c s ok.
          then_done (only one_diagnostic) (two d k lhs rhs) (visits (nodes_of d) k (lhs ∷ rhs ∷ [])) (both_fits d k lhs rhs) Nothing
          (reject d.schema (nodes_of d) lhs (said T c.state.subst m) c)
          (λ u b. and_then ((below d k).infer lhs b) (λ ty. only_right d.schema (nodes_of d) (below d k) rhs)) h s
          (λ y. reject_meets d.schema (nodes_of d) lhs (said T c.state.subst m) c s.orderly) (λ s₁. (R d nl.there).is T c s₁ ok)
          (λ T₁ b a. stop_typed (infers (nodes_of d) k lhs) (infers (nodes_of d) k rhs) (two d k lhs rhs)
          (record { grade = omega arith; records = omega arith; fields = omega arith }) ((below d k).infer lhs b)
          (λ ty. only_right d.schema (nodes_of d) (below d k) rhs) g refl a.begins (λ s₂. (I.is d k nl).is T₁ b s₂ tt));
    };
  }

-- ---- The right side inferred and unified with a type in hand
unified_fits : (d : Described) (k rhs : ℕ) → FitsIn (both (infers (nodes_of d) k rhs) (only one_diagnostic))
    (both (infers (nodes_of d) k rhs) (only one_diagnostic))
unified_fits d k rhs = record { grade = omega arith; records = omega arith; fields = omega arith }

module _ {f w ou w₁ ou₁ : List ℕ} {rhs left : ℕ} {r : Option (Ty × ℕ)} {t : Ty} {T : Rows} {d : Described} {k : ℕ} {c : Checker}
    (I : Infers f w ou rhs left w₁ ou₁ r) (named : Named d k rhs) (fine : Fine w t T c)
    (s : Begins f w ou T d (both (infers (nodes_of d) k rhs) (only one_diagnostic)) left c) where
  abbrev rest : Load
  rest = both (infers (nodes_of d) k rhs) (only one_diagnostic)

  unified_ends : {w₂ ou₂ : List ℕ} {u : Ty} {l : ℕ} {x : Option ℕ} → r ≡ Some (u, l) → UnifiesAt f w₁ ou₁ rhs u t l w₂ ou₂ x
      → StepEnds f w ou w₂ ou₂ T d rest.records rest.fields (done x)
      (and_then ((below d k).infer rhs c) (λ ty. unify_at d.schema (nodes_of d) rhs ty (tree T t)))
  unified_ends g U = then_typed (infers (nodes_of d) k rhs) (only one_diagnostic) rest (unified_fits d k rhs) ((below d k).infer rhs c)
      (λ ty. unify_at d.schema (nodes_of d) rhs ty (tree T t)) g s
      (λ y. (good s k).infer rhs c s.orderly y) (λ s₁. (I.is d k named).is T c s₁ tt)
      (λ T₁ b a fine₁. rw (← tree_after a t fine.ok) ((U.is d named.there).is T₁ b a.begins (fine₁, fine_after a t fine)))

  unified_out : r ≡ None → StepEnds f w ou w₁ ou₁ T d rest.records rest.fields (done None)
      (and_then ((below d k).infer rhs c) (λ ty. unify_at d.schema (nodes_of d) rhs ty (tree T t)))
  unified_out g = stop_typed (infers (nodes_of d) k rhs) (only one_diagnostic) rest (unified_fits d k rhs) ((below d k).infer rhs c)
      (λ ty. unify_at d.schema (nodes_of d) rhs ty (tree T t)) g refl s
      (λ s₁. (I.is d k named).is T c s₁ tt)

-- ---- A record on the left
pattern_fits : (d : Described) (k lhs rhs : ℕ) → FitsIn (both (infers (nodes_of d) k lhs) (both (infers (nodes_of d) k rhs) (only one_diagnostic)))
    (visits (nodes_of d) k (lhs ∷ rhs ∷ []))
unfolding sum_of
pattern_fits d k lhs rhs = record { grade = omega (arith, size_pos (nodes_of d) k rhs); records = omega arith; fields = omega arith }

module _ {f w ou w₁ ou₁ : List ℕ} {lhs rhs left : ℕ} {r : Option (Ty × ℕ)} (I : Infers f w ou lhs left w₁ ou₁ r) where
  -- What follows the left side.
  destructured : {w₂ ou₂ : List ℕ} {x : Option ℕ} {t : Ty} {l : ℕ} → r ≡ Some (t, l)
      → ((d : Described) (k : ℕ) → Named d k rhs → (T : Rows) (c : Checker) → Fine w₁ t T c
      → Begins f w₁ ou₁ T d (both (infers (nodes_of d) k rhs) (only one_diagnostic)) l c
      → StepEnds f w₁ ou₁ w₂ ou₂ T d (both (infers (nodes_of d) k rhs) (only one_diagnostic)).records
      (both (infers (nodes_of d) k rhs) (only one_diagnostic)).fields (done x)
      (and_then ((below d k).infer rhs c) (λ ty. unify_at d.schema (nodes_of d) rhs ty (tree T t))))
      → Destructures f w ou lhs rhs left w₂ ou₂ x
  unfolding destructure
  destructured g next = record {
    is = λ d k nl nr. record {
      is = λ T c s u.
          then_typed (infers (nodes_of d) k lhs) (both (infers (nodes_of d) k rhs) (only one_diagnostic)) (visits (nodes_of d) k (lhs ∷ rhs ∷ []))
          (pattern_fits d k lhs rhs) ((below d k).infer lhs c)
          (λ p b. and_then ((below d k).infer rhs b) (λ ty. unify_at d.schema (nodes_of d) rhs ty p)) g s
          (λ y. (good s k).infer lhs c s.orderly y) (λ s₁. (I.is d k nl).is T c s₁ tt) (λ T₁ b a fine. next d k nr T₁ b fine a.begins);
    };
  }

  pub destructure_out : r ≡ None → Destructures f w ou lhs rhs left w₁ ou₁ None
  unfolding destructure
  destructure_out g = record {
    is = λ d k nl nr. record {
      is = λ T c s u.
          stop_typed (infers (nodes_of d) k lhs) (both (infers (nodes_of d) k rhs) (only one_diagnostic)) (visits (nodes_of d) k (lhs ∷ rhs ∷ []))
          (pattern_fits d k lhs rhs) ((below d k).infer lhs c)
          (λ p b. and_then ((below d k).infer rhs b) (λ ty. unify_at d.schema (nodes_of d) rhs ty p)) g refl s (λ s₁. (I.is d k nl).is T c s₁ tt);
    };
  }

  module _ {w₂ ou₂ : List ℕ} {t : Ty} {l : ℕ} {y : Option (Ty × ℕ)} (g : r ≡ Some (t, l)) (J : Infers f w₁ ou₁ rhs l w₂ ou₂ y) where
    pub destructure_unified : {w₃ ou₃ : List ℕ} {u : Ty} {v : ℕ} {x : Option ℕ} → y ≡ Some (u, v) → UnifiesAt f w₂ ou₂ rhs u t v w₃ ou₃ x
        → Destructures f w ou lhs rhs left w₃ ou₃ x
    destructure_unified h U = destructured g (λ d k nr T c fine s. unified_ends J nr fine s h U)

    pub destructure_right_out : y ≡ None → Destructures f w ou lhs rhs left w₂ ou₂ None
    destructure_right_out h = destructured g (λ d k nr T c fine s. unified_out J nr fine s h)

-- ---- A wildcard on the left
wildcard_fits : (d : Described) (k lhs rhs : ℕ) → FitsIn (both (infers (nodes_of d) k rhs) (only (one_node lhs))) (visits (nodes_of d) k (lhs ∷ rhs ∷ []))
unfolding sum_of
wildcard_fits d k lhs rhs = record {
  grade = record { nodes = λ x. omega (arith, own_weight (nodes_of d) (λ m. same x m) k lhs); unknowns = omega arith; diagnostics = omega arith };
  records = omega arith;
  fields = omega arith;
}

abbrev pub Wildcards : List ℕ → List ℕ → List ℕ → ℕ → ℕ → ℕ → List ℕ → List ℕ → Option ℕ → Type 0
Wildcards f w ou lhs rhs left w' ou' r = Sides (λ d b x y. bind_wildcard d.schema (nodes_of d) b x y) f w ou lhs rhs left w' ou' r

module _ {f w ou w₁ ou₁ : List ℕ} {lhs rhs left : ℕ} {r : Option (Ty × ℕ)} (I : Infers f w ou rhs left w₁ ou₁ r) where
  pub wildcard_noted : {w₂ ou₂ : List ℕ} {t : Ty} {l : ℕ} → r ≡ Some (t, l) → Notes f w₁ ou₁ lhs t l w₂ ou₂ → Wildcards f w ou lhs rhs left w₂ ou₂ (Some l)
  unfolding bind_wildcard
  wildcard_noted g ann = record {
    is = λ d k nl nr. record {
      is = λ T c s u.
          then_typed (infers (nodes_of d) k rhs) (only (one_node lhs)) (visits (nodes_of d) k (lhs ∷ rhs ∷ [])) (wildcard_fits d k lhs rhs)
          ((below d k).infer rhs c) (λ ty. annotate lhs ty) g s
          (λ y. (good s k).infer rhs c s.orderly y) (λ s₁. (I.is d k nr).is T c s₁ tt)
          (λ T₁ b a fine. silent_on ((ann d nl.there).is T₁ b a.begins fine));
    };
  }

  pub wildcard_out : r ≡ None → Wildcards f w ou lhs rhs left w₁ ou₁ None
  unfolding bind_wildcard
  wildcard_out g = record {
    is = λ d k nl nr. record {
      is = λ T c s u.
          stop_typed (infers (nodes_of d) k rhs) (only (one_node lhs)) (visits (nodes_of d) k (lhs ∷ rhs ∷ [])) (wildcard_fits d k lhs rhs)
          ((below d k).infer rhs c) (λ ty. annotate lhs ty) g refl s
          (λ s₁. (I.is d k nr).is T c s₁ tt);
    };
  }

-- ---- A variable on the left
noted_fits : (d : Described) (k lhs rhs : ℕ) → FitsIn
    (both (only one_unknown) (both (only (one_node lhs)) (both (infers (nodes_of d) k rhs) (only one_diagnostic)))) (visits (nodes_of d) k (lhs ∷ rhs ∷ []))
unfolding sum_of
noted_fits d k lhs rhs = record {
  grade = record {
    nodes = λ x. omega (arith, own_weight (nodes_of d) (λ m. same x m) k lhs);
    unknowns = omega (arith, size_pos (nodes_of d) k lhs);
    diagnostics = omega (arith, size_pos (nodes_of d) k rhs);
  };
  records = omega arith;
  fields = omega arith;
}

module _ {f w ou w₁ ou₁ w₂ ou₂ w₃ ou₃ : List ℕ} {symbol lhs rhs left v : ℕ} {r : Option (Ty × ℕ)} (B : Brings f w ou lhs symbol left w₁ ou₁ v)
    (ann : Notes f w₁ ou₁ lhs (Var v) left w₂ ou₂) (I : Infers f w₂ ou₂ rhs left w₃ ou₃ r) where
  variable_then : {w₄ ou₄ : List ℕ} {x : Option ℕ}
      → ((d : Described) (k : ℕ) → Named d k rhs → (T : Rows) (c : Checker) → Fine w₂ (Var v) T c
      → Begins f w₂ ou₂ T d (both (infers (nodes_of d) k rhs) (only one_diagnostic)) left c
      → StepEnds f w₂ ou₂ w₄ ou₄ T d (both (infers (nodes_of d) k rhs) (only one_diagnostic)).records
      (both (infers (nodes_of d) k rhs) (only one_diagnostic)).fields (done x)
      (and_then ((below d k).infer rhs c) (λ ty. unify_at d.schema (nodes_of d) rhs ty (Tree.Var v))))
      → BindsVariable f w ou symbol lhs rhs left w₄ ou₄ x
  unfolding bind_variable
  variable_then next = record {
    is = λ small. record {
      is = λ d k nl nr. record {
        is = λ T c s u.
            let right = both (infers (nodes_of d) k rhs) (only one_diagnostic) in
            then_numbered (only one_unknown) (both (only (one_node lhs)) right) (visits (nodes_of d) k (lhs ∷ rhs ∷ [])) (noted_fits d k lhs rhs)
            (IsUnknown symbol) (introduce lhs symbol c)
            (λ x b. and_then (annotate lhs (Tree.Var x) b)
            (λ u e. and_then ((below d k).infer rhs e) (λ ty. unify_at d.schema (nodes_of d) rhs ty (Tree.Var x)))) s
            (λ y. introduce_meets lhs symbol c s.orderly) (λ s₁. (B.is d small nl.there).is T c s₁ tt)
            (λ T₁ b a h. let fine : Fine w₁ (Var v) T₁ b = record { ok = ok_unknown a.begins.runs h.0; side = h.0 } in
            then_silent (only (one_node lhs)) right (both (only (one_node lhs)) right)
            (record { grade = omega arith; records = omega arith; fields = omega arith }) Nothing (annotate lhs (Tree.Var v) b)
            (λ u e. and_then ((below d k).infer rhs e) (λ ty. unify_at d.schema (nodes_of d) rhs ty (Tree.Var v))) a.begins
            (λ y. annotate_meets lhs (Tree.Var v) b a.begins.orderly y h.0) (λ s₂. (ann d nl.there).is T₁ b s₂ fine)
            (λ T₂ b₂ a₂ h₂. next d k nr T₂ b₂ (fine_after a₂ (Var v) fine) a₂.begins));
      };
    };
  }

  pub variable_unified : {w₄ ou₄ : List ℕ} {u : Ty} {l : ℕ} {x : Option ℕ} → r ≡ Some (u, l) → UnifiesAt f w₃ ou₃ rhs u (Var v) l w₄ ou₄ x
      → BindsVariable f w ou symbol lhs rhs left w₄ ou₄ x
  variable_unified g U = variable_then (λ d k nr T c fine s. unified_ends I nr fine s g U)

  pub variable_out : r ≡ None → BindsVariable f w ou symbol lhs rhs left w₃ ou₃ None
  variable_out g = variable_then (λ d k nr T c fine s. unified_out I nr fine s g)
