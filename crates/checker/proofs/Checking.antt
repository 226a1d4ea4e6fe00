-- `check`: what is inferred is unified with what is expected. Where that fails, and where a diagnostic arose inside a
-- field, the stretch is rolled back to where it began: only its unknowns, its diagnostics and what left it stay.
use mathlib.Core.Bool.{Bool, true, false}
use mathlib.Core.List.{List}
use mathlib.Core.Path.{◌≡◌, refl, sym}
use Prim.Native.Nat.{ℕ, suc, ◌≤◌, ◌<◌}
use native.Mathlib.Omega.{arith}
use lib.Dec.{ltb}
use lib.ListN.{length, get_or}
use borrow.Author.Tests.{lt-ltb, le-ltb}
use Rattle.unification.specs.Ty as Tree
use Rattle.unification.specs.Bindings as Bindings
use Rattle.unification.specs.Unify as Unify
use Rattle.unification.proofs.Tests.{clash}
use Rattle.work.specs.Layout.{ENV-LEN, DIAGNOSTIC-COUNT, MARK-COUNT, UNDO-LEN}
use Rattle.cells.specs.declared.Ty.{Ty}
use Rattle.cells.specs.declared.TyError.{TyError}
use Rattle.cells.specs.Stands.{Rows, tree}
use Rattle.cells.specs.Promises.{IsError}
use Rattle.cells.specs.Inferred.{More, AddsCells}
use Rattle.cells.proofs.Frame.{tree_more}
use Rattle.cells.proofs.Holding.{holds_log}
use Rattle.format.specs.File.{Described}
use Rattle.meaning.specs.Check.{Checker, Step, goes, out, Does, and_then, walk, Mark, report, unify, rollback, snapshot, diagnostics_len, infer_at}
use Rattle.meaning.specs.Check.{infer_then_unify, check_field}
use Rattle.meaning.proofs.Meets.{Went, made_trans, reached_trans}
use Rattle.meaning.specs.Grades.{no_thing, one_diagnostic}
use Rattle.meaning.proofs.Steps.{Nothing, IsSide, unify_meets, rolled_meets}
use Rattle.meaning.proofs.Visits.{size_pos}
use Rattle.state.specs.Lines.{Told}
use Rattle.state.specs.Runs.{Runs}
use Rattle.state.proofs.Scoping.{runs_env_length, runs_marks_length}
use Rattle.steps.specs.Ends.{StepGives, typed, done, silent, unified, IsUnified, Gone, StepEnds, went, spent}
use Rattle.steps.specs.Loads.{Load, only, both, FitsIn, infers, checks, Begins}
use Rattle.steps.specs.Promises.{nodes_of, Fine, UnifiesTo, Reports, RollsTo, Named, NodeAt}
use Rattle.checker.specs.Promises.{below, Infers, InfersThenUnifies, Checks}
use Rattle.checker.proofs.Within.{ChecksField}
use Rattle.steps.proofs.Growing.{ok_kept}
use Rattle.steps.proofs.Uniting.{then_one}
use Rattle.steps.proofs.Sequel.{begins_part, begins_after, gone_trans, gone_on, holds_left, Led, led, then_ends, stop_ends}
use Rattle.steps.proofs.Results.{After, with_visits, fine_after, tree_after, got_same, on_here, then_typed, stop_typed, then_done, stop_done, silent_on}
use Rattle.checker.proofs.Inferring.{good}
use Rattle.checker.proofs.Bodies.{made_env, made_marks}
use Rattle.std.specs.Prelude.{Err, None, Ok, Option, Some, ℕ, Result}
use Rattle.cells.specs.declared.Failure.{Failure}

-- ---- Back to where the stretch began
abbrev pub mark_of : Checker → Mark
mark_of c = record { state = Bindings.snapshot c.state; env = length c.env; marks = length c.marks }

same_load : (G : Load) → FitsIn (both G (only no_thing)) G
same_load G = record { grade = omega arith; records = omega arith; fields = omega arith }

module _ {f w ou w₂ ou₂ w₃ ou₃ : List ℕ} {T : Rows} {d : Described} {left v : ℕ} {c b : Checker} (G : Load) {A : Type 0} {E : StepGives A} {a : A}
    (P : A → Checker → Type 0)
    (s : Begins f w ou T d G left c) (g : Gone f w ou w₂ ou₂ T d G.records G.fields E a b 0) (x : Went P G.grade c a b) (e : b.state.left ≡ v)
    (R : RollsTo f w₂ ou₂ (get_or w UNDO-LEN 0) (get_or w ENV-LEN 0) (get_or w MARK-COUNT 0) w₃ ou₃) where
  -- The code's rollback, from the end of the stretch.
  rolled_back : StepEnds f w₂ ou₂ w₃ ou₃ g.T' d 0 0 (silent v) (rollback (mark_of c) b)
  unfolding Bindings.snapshot
  rolled_back =
      (R d v (mark_of c) (sym (holds_log s.runs.holds)) (runs_env_length s.runs) (runs_marks_length s.runs)).is g.T' b
      (with_visits e (begins_after G (only no_thing) G P (same_load G) g x s)) (
        omega (arith, runs_env_length s.runs, made_env G.grade c b x.made),
        omega (arith, runs_marks_length s.runs, made_marks G.grade c b x.made),
      )

  -- From its start.
  rolled_ends : StepEnds f w ou w₃ ou₃ T d G.records G.fields (silent v) (rollback (mark_of c) b)
  rolled_ends = gone_on G (only no_thing) G (same_load G) g rolled_back

-- An error in hand outlives a rollback.
error_kept : {w w' : List ℕ} {T T' : Rows} → AddsCells w w' → More w T T' → (x : TyError) {e : Unify.TyError} → IsError w T x e → IsError w' T' x e
error_kept a M (TyError.Mismatch p q) i = record
    { is = rw (tree_more M p i.ok.0, tree_more M q i.ok.1) i.is; ok = (ok_kept a p i.ok.0, ok_kept a q i.ok.1) }
error_kept a M (TyError.UnionMismatch u p q) i = record
    { is = rw (tree_more M p i.ok.0, tree_more M q i.ok.1) i.is; ok = (ok_kept a p i.ok.0, ok_kept a q i.ok.1) }
error_kept a M (TyError.UnknownField n) i = record { is = i.is; ok = tt }
error_kept a M TyError.Infinite i = record { is = i.is; ok = tt }

abbrev carrying : List ℕ → ℕ → TyError → Unify.TyError → StepGives (Unit {0})
carrying w v x e = record { Is = λ R u l. (l ≡ v) × IsError w R x e; Out = ⊥ }

carried : {f w ou w' ou' : List ℕ} {T : Rows} {d : Described} {n m v : ℕ} {s : Step (Unit {0})} (x : TyError) {e : Unify.TyError} → IsError w T x e
    → StepEnds f w ou w' ou' T d n m (silent v) s → StepEnds f w ou w' ou' T d n m (carrying w' v x e) s
carried x i (went g) = went (record {
  T' = g.T';
  more = g.more;
  runs = g.runs;
  lines = g.lines;
  grew = g.grew;
  is = (g.is, error_kept g.grew.adds g.more x i);
})
carried x i (spent g) = absurd g.is.0

-- ---- `infer_then_unify`
checks_fits : (d : Described) (k n : ℕ) → FitsIn (both (infers (nodes_of d) k n) (only one_diagnostic)) (checks (nodes_of d) k n)
checks_fits d k n = record { grade = omega (arith, size_pos (nodes_of d) k n); records = omega arith; fields = omega arith }

-- What follows a unification.
abbrev following : Described → ℕ → Mark → Option Unify.TyError → Does (Unit {0})
following d n m None c = goes tt c
following d n m (Some err) c = and_then (rollback m c) (λ u. report d.schema (nodes_of d) n err)

then_same : (d : Described) (k n : ℕ) (t : Tree.Ty) (c : Checker)
    → infer_then_unify d.schema (nodes_of d) (below d k) n t c ≡ and_then ((below d (suc k)).infer n c)
    (λ ty b. and_then (unify ty t b) (following d n (mark_of c)))
unfolding infer_then_unify snapshot walk
then_same d k n t c = go (infer_at d.schema (nodes_of d) (below d k) n c)
  where
    tail : (m : Step (Option Unify.TyError)) → and_then m
        (λ failed. elim failed as (λ o. Does (Unit {0}))
        [ None ↦ (λ b. goes tt b) | Some err ↦ (λ b. and_then (rollback (mark_of c) b) (λ u. report d.schema (nodes_of d) n err)) ]) ≡ and_then m
        (following d n (mark_of c))
    tail (goes None b) = refl
    tail (goes (Some err) b) = refl
    tail (out b) = refl

    go : (m : Step Tree.Ty) → and_then m (λ ty b. and_then (unify ty t b)
        (λ failed. elim failed as (λ o. Does (Unit {0}))
        [ None ↦ (λ e. goes tt e) | Some err ↦ (λ e. and_then (rollback (mark_of c) e) (λ u. report d.schema (nodes_of d) n err)) ]))
        ≡ and_then m (λ ty b. and_then (unify ty t b) (following d n (mark_of c)))
    go (goes ty b) = tail (unify ty t b)
    go (out b) = refl

visited : {d : Described} {k n : ℕ} → NodeAt d k n → Named d (suc k) n
visited at = record { there = at.there; under = omega (arith, at.above) }

module _ {f w ou w₁ ou₁ : List ℕ} {n left : ℕ} {t : Ty} {r : Option (Ty × ℕ)} (I : Infers f w ou n left w₁ ou₁ r) where
  pub unify_out : r ≡ None → InfersThenUnifies f w ou n t left w₁ ou₁ None
  unify_out g = record {
    is = λ d k at. record {
      is = λ T c s fine.
          rw (then_same d k n (tree T t) c) (stop_typed (infers (nodes_of d) (suc k) n) (only one_diagnostic) (checks (nodes_of d) (suc k) n)
          (checks_fits d (suc k) n) ((below d (suc k)).infer n c)
          (λ ty b. and_then (unify ty (tree T t) b) (following d n (mark_of c))) g refl s (λ s₁. (I.is d (suc k) (visited at)).is T c s₁ tt));
    };
  }

  module _ {u : Ty} {l : ℕ} (g : r ≡ Some (u, l)) {w₂ ou₂ : List ℕ} {x : Result ℕ Failure} (U : UnifiesTo f w₁ ou₁ u t l w₂ ou₂ x) where
    -- The unification, after the visit.
    unify_ends : {T : Rows} {d : Described} {G H : Load} {c : Checker} {T₁ : Rows} {b : Checker} (a : After f w ou w₁ ou₁ T d G H l c T₁ b)
        → Fine w t T c → Fine w₁ u T₁ b → Begins f w₁ ou₁ T₁ d (only no_thing) l b
        → StepEnds f w₁ ou₁ w₂ ou₂ T₁ d 0 0 (unified w₂ x) (unify (tree T₁ u) (tree T t) b)
    unify_ends {d = d} {T₁ = T₁} {b = b} a fine fine₁ s = rw (← tree_after a t fine.ok) ((U d).is T₁ b s (fine₁, fine_after a t fine))

    pub unify_good : {v : ℕ} → x ≡ Ok v → InfersThenUnifies f w ou n t left w₂ ou₂ (Some v)
    unify_good {v} z = record {
      is = λ d k at. record {
        is = λ T c s fine.
            rw (then_same d k n (tree T t) c) (then_typed (infers (nodes_of d) (suc k) n) (only one_diagnostic) (checks (nodes_of d) (suc k) n)
            (checks_fits d (suc k) n) ((below d (suc k)).infer n c)
            (λ ty b. and_then (unify ty (tree T t) b) (following d n (mark_of c))) g s (λ y. (good s (suc k)).infer n c s.orderly y)
            (λ s₁. (I.is d (suc k) (visited at)).is T c s₁ tt)
            (λ T₁ b a fine₁. let fine₂ = fine_after a t fine in
            then_ends (only no_thing) (only one_diagnostic) (only one_diagnostic) then_one Nothing (unify (tree T₁ u) (tree T t) b)
            (following d n (mark_of c)) (λ o. clash (cc (z, o))) a.begins
            (λ y. rw (← tree_after a t fine.ok) (unify_meets (tree T₁ u) (tree T₁ t) b a.begins.orderly fine₁.side fine₂.side))
            (unify_ends a fine fine₁)
            (λ o e q h s₂. succeeded d n (mark_of c) o e q.is s₂.runs s₂.lines)));
      };
    }
      where
        succeeded : {T₂ : Rows} (d : Described) (n : ℕ) (m : Mark) (o : Option Unify.TyError) (e : Checker) → IsUnified w₂ x T₂ o e.state.left
            → Runs f w₂ T₂ d e → Told d w₂ ou₂ e 0 → StepEnds f w₂ ou₂ w₂ ou₂ T₂ d 0 0 (done (Some v)) (following d n m o e)
        succeeded d n m None e i runs told = on_here runs told (cc (z, i))
        succeeded d n m (Some err) e i runs told = clash (cc (z, i.1))

    pub unify_spent : x ≡ Err Failure.Spent → InfersThenUnifies f w ou n t left w₂ ou₂ None
    unify_spent z = record {
      is = λ d k at. record {
        is = λ T c s fine.
            rw (then_same d k n (tree T t) c) (then_typed (infers (nodes_of d) (suc k) n) (only one_diagnostic) (checks (nodes_of d) (suc k) n)
            (checks_fits d (suc k) n) ((below d (suc k)).infer n c)
            (λ ty b. and_then (unify ty (tree T t) b) (following d n (mark_of c))) g s (λ y. (good s (suc k)).infer n c s.orderly y)
            (λ s₁. (I.is d (suc k) (visited at)).is T c s₁ tt)
            (λ T₁ b a fine₁. stop_ends (only no_thing) (only one_diagnostic) (only one_diagnostic) then_one (unify (tree T₁ u) (tree T t) b)
            (following d n (mark_of c)) (λ R o v i. unsucceeded R o v i) (λ o. refl) a.begins (unify_ends a fine fine₁)));
      };
    }
      where
        unsucceeded : (R : Rows) (o : Option Unify.TyError) (v : ℕ) → ¬ (IsUnified w₂ x R o v)
        unsucceeded R None v i = clash (cc (z, i))
        unsucceeded R (Some err) v i = clash (cc (z, i.1))

    -- The failure, rolled back and reported.
    module _ {w₃ ou₃ w₄ ou₄ : List ℕ} {err : TyError} {v : ℕ} {y : Option ℕ} (z : x ≡ Err (Failure.Bad err v))
        (R : RollsTo f w₂ ou₂ (get_or w UNDO-LEN 0) (get_or w ENV-LEN 0) (get_or w MARK-COUNT 0) w₃ ou₃) (O : Reports f w₃ ou₃ n err v w₄ ou₄ y) where
      failed : {T : Rows} {d : Described} {c b : Checker} (k : ℕ) (o : Option Unify.TyError) → NodeAt d k n
          → Begins f w ou T d (checks (nodes_of d) (suc k) n) left c
          → (g : Gone f w ou w₂ ou₂ T d (infers (nodes_of d) (suc k) n).records (infers (nodes_of d) (suc k) n).fields (unified w₂ x) o b 0)
          → Went Nothing (infers (nodes_of d) (suc k) n).grade c o b
          → StepEnds f w ou w₄ ou₄ T d (checks (nodes_of d) (suc k) n).records (checks (nodes_of d) (suc k) n).fields (done y) (following d n (mark_of c) o b)
      failed k None at s q h = clash (cc (z, q.is))
      failed {T} {d} {c} {b} k (Some e) at s q h =
          let G = infers (nodes_of d) (suc k) n in
          let i : IsError w₂ q.T' err e = (let p : q.is.0 ≡ err = cc (z, q.is.1) in rw p at q.is.2) in
          let visits : b.state.left ≡ v = cc (z, q.is.1) in
          then_ends G (only one_diagnostic) (checks (nodes_of d) (suc k) n) (checks_fits d (suc k) n) Nothing (rollback (mark_of c) b)
          (λ u. report d.schema (nodes_of d) n e) (λ o. o) s
          (λ y. rolled_meets G.grade c b s.orderly h.orderly h.made h.reached)
          (λ s₁. gone_on G (only no_thing) G (same_load G) q (carried err i (rolled_back G Nothing s₁ q h visits R)))
          (λ u b₃ g₃ h₃ s₃. rw (← g₃.is.1.is) ((O d at.there).is g₃.T' b₃ (with_visits g₃.is.0 s₃) g₃.is.1.ok))

      failing : {T : Rows} {d : Described} {c : Checker} (k : ℕ) → NodeAt d k n → Begins f w ou T d (checks (nodes_of d) (suc k) n) left c
          → Fine w t T c → (L : Led f w ou w₁ ou₁ T d (infers (nodes_of d) (suc k) n) (typed w₁ r) IsSide c ((below d (suc k)).infer n c))
          → Led f w₁ ou₁ w₂ ou₂ L.gone.T' d (only no_thing) (unified w₂ x) Nothing L.b (unify L.a (tree T t) L.b)
          → StepEnds f w ou w₄ ou₄ T d (checks (nodes_of d) (suc k) n).records (checks (nodes_of d) (suc k) n).fields (done y)
          (infer_then_unify d.schema (nodes_of d) (below d k) n (tree T t) c)
      unfolding and_then
      failing {T} {d} {c} k at s fine L M =
          let G = infers (nodes_of d) (suc k) n in
          rw (then_same d k n (tree T t) c, L.is, M.is) (failed k M.a at s (gone_trans G (only no_thing) G (same_load G) L.gone M.gone) (record {
            orderly = M.went.orderly;
            made = made_trans G.grade no_thing G.grade c L.b M.b (same_load G).grade L.went.made M.went.made;
            reached = reached_trans c L.b M.b L.went.reached M.went.reached;
            holds = tt;
          }))

      pub unify_bad : InfersThenUnifies f w ou n t left w₄ ou₄ y
      unify_bad = record {
        is = λ d k at. record {
          is = λ T c s fine.
              let G = infers (nodes_of d) (suc k) n in
              let s₁ = begins_part G (checks (nodes_of d) (suc k) n)
              (holds_left G (only one_diagnostic) (checks (nodes_of d) (suc k) n) (checks_fits d (suc k) n)) s in
              unified_after k at s fine (led G IsSide (λ o. clash (cc (g, o))) ((good s (suc k)).infer n c s.orderly s₁.free.ready)
              ((I.is d (suc k) (visited at)).is T c s₁ tt));
        };
      }
        where
          unified_after : {T : Rows} {d : Described} {c : Checker} (k : ℕ) → NodeAt d k n → Begins f w ou T d (checks (nodes_of d) (suc k) n) left c
              → Fine w t T c → Led f w ou w₁ ou₁ T d (infers (nodes_of d) (suc k) n) (typed w₁ r) IsSide c ((below d (suc k)).infer n c)
              → StepEnds f w ou w₄ ou₄ T d (checks (nodes_of d) (suc k) n).records (checks (nodes_of d) (suc k) n).fields (done y)
              (infer_then_unify d.schema (nodes_of d) (below d k) n (tree T t) c)
          unified_after {T} {d} {c} k at s fine L =
              let G = infers (nodes_of d) (suc k) n in
              let K = checks (nodes_of d) (suc k) n in
              let i = got_same g L.gone.is in
              let s₂ = with_visits i.2 (begins_after G (only one_diagnostic) K IsSide (checks_fits d (suc k) n) L.gone L.went s) in
              let a : After f w ou w₁ ou₁ T d G (only one_diagnostic) l c L.gone.T' L.b = record
              { more = L.gone.more; grew = L.gone.grew; made = L.went.made; begins = s₂ } in
              let fine₁ : Fine w₁ u L.gone.T' L.b = record { ok = i.0; side = rw i.1 L.went.holds } in
              let fine₂ = fine_after a t fine in
              failing k at s fine L (rw (← i.1) (led (only no_thing) Nothing (λ o. clash (cc (z, o)))
              (rw (← tree_after a t fine.ok) (unify_meets (tree L.gone.T' u) (tree L.gone.T' t) L.b s₂.orderly fine₁.side fine₂.side))
              (unify_ends a fine fine₁ (begins_part (only no_thing) (only one_diagnostic)
              (holds_left (only no_thing) (only one_diagnostic) (only one_diagnostic) then_one) s₂))))

-- ---- A field in a scope of its own
-- Whether a diagnostic arose.
abbrev closing : Bool → Mark → Does (Unit {0})
closing true m c = rollback m c
closing false m c = goes tt c

field_same : (d : Described) (k n : ℕ) (t : Tree.Ty) (c : Checker)
    → check_field d.schema (nodes_of d) (below d k) n t c ≡ and_then ((below d k).check n t c)
    (λ u b. closing (ltb (length c.diagnostics) (length b.diagnostics)) (mark_of c) b)
unfolding check_field diagnostics_len snapshot
field_same d k n t c = go ((below d k).check n t c)
  where
    tail : (arose : Bool) (b : Checker) → (elim arose as (λ g. Does (Unit {0})) [ true ↦ rollback (mark_of c) | false ↦ (λ e. goes tt e) ]) b ≡ closing
        arose (mark_of c) b
    tail true b = refl
    tail false b = refl

    go : (m : Step (Unit {0})) → and_then m (λ u b.
        (elim (ltb (length c.diagnostics) (length b.diagnostics)) as (λ g. Does (Unit {0})) [ true ↦ rollback (mark_of c) | false ↦ (λ e. goes tt e) ]) b)
        ≡ and_then m (λ u b. closing (ltb (length c.diagnostics) (length b.diagnostics)) (mark_of c) b)
    go (goes u b) = tail (ltb (length c.diagnostics) (length b.diagnostics)) b
    go (out b) = refl

module _ {f w ou w₁ ou₁ : List ℕ} {n left : ℕ} {t : Ty} {r : Option ℕ} (C : Checks f w ou n t left w₁ ou₁ r) where
  pub field_out : r ≡ None → ChecksField f w ou n t left w₁ ou₁ None
  field_out g = record {
    is = λ d k named. record {
      is = λ T c s fine.
          rw (field_same d k n (tree T t) c) (stop_done (checks (nodes_of d) k n) (only no_thing) (checks (nodes_of d) k n)
          (same_load (checks (nodes_of d) k n)) Nothing ((below d k).check n (tree T t) c)
          (λ u b. closing (ltb (length c.diagnostics) (length b.diagnostics)) (mark_of c) b) g refl s (λ s₁. (C.is d k named).is T c s₁ fine));
    };
  }

  module _ {l : ℕ} (g : r ≡ Some l) where
    -- No diagnostic arose.
    pub field_kept : get_or w₁ DIAGNOSTIC-COUNT 0 ≤ get_or w DIAGNOSTIC-COUNT 0 → ChecksField f w ou n t left w₁ ou₁ (Some l)
    field_kept h = record {
      is = λ d k named. record {
        is = λ T c s fine.
            rw (field_same d k n (tree T t) c) (then_done (checks (nodes_of d) k n) (only no_thing) (checks (nodes_of d) k n)
            (same_load (checks (nodes_of d) k n)) Nothing ((below d k).check n (tree T t) c)
            (λ u b. closing (ltb (length c.diagnostics) (length b.diagnostics)) (mark_of c) b) g s
            (λ y. (good s k).check n (tree T t) c s.orderly y fine.side) (λ s₁. (C.is d k named).is T c s₁ fine)
            (λ T₁ b a. rw (le-ltb (length c.diagnostics) (length b.diagnostics)
            (omega (arith, h, s.runs.diagnostics, a.begins.runs.diagnostics))) (on_here a.begins.runs a.begins.lines a.begins.visits)));
      };
    }

    pub field_rolled : {w₂ ou₂ : List ℕ} → get_or w DIAGNOSTIC-COUNT 0 < get_or w₁ DIAGNOSTIC-COUNT 0
        → RollsTo f w₁ ou₁ (get_or w UNDO-LEN 0) (get_or w ENV-LEN 0) (get_or w MARK-COUNT 0) w₂ ou₂ → ChecksField f w ou n t left w₂ ou₂ (Some l)
    unfolding and_then
    field_rolled {w₂} {ou₂} h R = record {
      is = λ d k named. record {
        is = λ T c s fine.
            back k s (led (checks (nodes_of d) k n) Nothing (λ o. clash (cc (g, o)))
            ((good s k).check n (tree T t) c s.orderly s.free.ready fine.side) ((C.is d k named).is T c s fine));
      };
    }
      where
        back : {T : Rows} {d : Described} {c : Checker} (k : ℕ) → Begins f w ou T d (checks (nodes_of d) k n) left c
            → Led f w ou w₁ ou₁ T d (checks (nodes_of d) k n) (done r) Nothing c ((below d k).check n (tree T t) c)
            → StepEnds f w ou w₂ ou₂ T d (checks (nodes_of d) k n).records (checks (nodes_of d) k n).fields (done (Some l))
            (check_field d.schema (nodes_of d) (below d k) n (tree T t) c)
        back {T} {d} {c} k s L =
            rw (
              field_same d k n (tree T t) c,
              L.is,
              lt-ltb (length c.diagnostics) (length L.b.diagnostics)
                  (omega (arith, h, s.runs.diagnostics, L.gone.runs.diagnostics)),
            )
            (silent_on (rolled_ends (checks (nodes_of d) k n) Nothing s L.gone L.went (cc (g, L.gone.is)) R))
