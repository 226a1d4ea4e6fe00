-- `unify_at`, `compare_order`, `compare_types`: a unification or the question for an order, and one diagnostic where it
-- fails.
use mathlib.Core.Bool.{false}
use mathlib.Core.List.{List}
use mathlib.Core.Path.{◌≡◌, refl, sym, ◌∙◌, ap}
use native.Mathlib.Omega.{arith}
use Prim.Native.Nat.{ℕ}
use lib.ListN.{set}
use Rattle.work.specs.Layout.{LEFT}
use Rattle.unification.specs.Bindings as Bindings
use Rattle.unification.specs.Bindings.{yes_left, no_left}
use Rattle.unification.specs.Unify as Unify
use Rattle.unification.proofs.Tests.{clash}
use Rattle.cells.specs.declared.Ty.{Ty}
use Rattle.cells.specs.declared.TyError.{TyError}
use Rattle.cells.specs.Stands.{Rows, tree}
use Rattle.cells.specs.Promises.{error_of, OkError, answer_of, IsOrderable}
use Rattle.cells.proofs.Frame.{more_refl, keeps_refl}
use Rattle.cells.proofs.Holding.{holds_left}
use Rattle.format.specs.File.{Described}
use Rattle.meaning.specs.Check as Check
use Rattle.meaning.specs.Check.{Checker, Step, Does, goes, and_then}
use Rattle.meaning.proofs.Meets.{Went, Meets, going}
use Rattle.meaning.specs.Grades.{no_thing, one_diagnostic}
use Rattle.meaning.proofs.Steps.{Nothing, unify_meets, orderable_meets}
use Rattle.messages.specs.declared.Message.TheVariants as Message
use Rattle.messages.specs.Said.{report_message}
use Rattle.state.specs.Lines.{Rejected}
use Rattle.state.specs.Runs.{Runs}
use Rattle.state.specs.Running.{left_if}
use Rattle.unify.specs.Purses.{ok_left}
use Rattle.state.proofs.Lefts.{ended}
use Rattle.state.proofs.Running.{runs_slots}
use Rattle.steps.specs.Ends.{IsUnified, unified, done, silent, Gone, StepEnds, spent}
use Rattle.steps.specs.Loads.{only, both, FitsIn, Begins, Beside}
use Rattle.steps.specs.Promises.{Fine, UnifiesTo, UnifiesOutside, compare_types, UnifiesAt, ComparesTypes}
use Rattle.steps.specs.Outside.{ComparesOrder}
use Rattle.steps.proofs.Growing.{grew_refl}
use Rattle.steps.proofs.Sequel.{then_ends, stop_ends, ends_here, begins_after}
use Rattle.steps.proofs.Results.{After, tree_after, fine_after, with_visits, on_here}
use Rattle.steps.proofs.Ending.{reject_ends}
use Rattle.steps.proofs.Besides.{reports, not_come, zero_noted}
use Rattle.std.specs.Prelude.{Bool, Err, None, Ok, Option, Result, Some, true, ℕ}
use Rattle.cells.specs.declared.Failure.{Failure}

-- A step that makes nothing, and then one diagnostic at most.
pub then_one : FitsIn (both (only no_thing) (only one_diagnostic)) (only one_diagnostic)
then_one = record {
  grade = record { nodes = λ x. omega arith; unknowns = omega arith; diagnostics = omega arith };
  records = omega arith;
  fields = omega arith;
}

-- ---- A unification, and then
module _ {f w ou w₁ ou₁ : List ℕ} {got expected : Ty} {left : ℕ} {r : Result ℕ Failure} (U : UnifiesTo f w ou got expected left w₁ ou₁ r) {T : Rows}
    {d : Described} {c : Checker}
    (B : Begins f w ou T d (only one_diagnostic) left c) (fine : Fine w got T c × Fine w expected T c) where
  abbrev first : Step (Option Unify.TyError)
  first = Check.unify (tree T got) (tree T expected) c

  meets : Meets Nothing no_thing c first
  meets = unify_meets (tree T got) (tree T expected) c B.orderly fine.0.side fine.1.side

  then_good : {w₂ ou₂ : List ℕ} {x : Option ℕ} (next : Option Unify.TyError → Does (Unit {0})) {l : ℕ} → r ≡ Ok l
      → ((T₁ : Rows) (b : Checker) → After f w ou w₁ ou₁ T d (only no_thing) (only one_diagnostic) l c T₁ b
      → StepEnds f w₁ ou₁ w₂ ou₂ T₁ d 0 0 (done x) (next None b)) → StepEnds f w ou w₂ ou₂ T d 0 0 (done x) (and_then first next)
  then_good {w₂} {ou₂} {x} next {l} e rest = then_ends (only no_thing) (only one_diagnostic) (only one_diagnostic) then_one Nothing first next
      (λ o. clash (cc (e, o))) B (λ y. meets) (λ s. (U d).is T c s fine) on
    where
      on : (a : Option Unify.TyError) (b : Checker) (g : Gone f w ou w₁ ou₁ T d 0 0 (unified w₁ r) a b 0) → Went Nothing no_thing c a b
          → Begins f w₁ ou₁ g.T' d (only one_diagnostic) b.state.left b → StepEnds f w₁ ou₁ w₂ ou₂ g.T' d 0 0 (done x) (next a b)
      on None b g v s = let q : b.state.left ≡ l = cc (e, g.is) in rest g.T' b
          (record { more = g.more; grew = g.grew; made = v.made; begins = with_visits q s })
      on (Some y) b g v s = clash (cc (e, g.is.1))

  then_bad : {w₂ ou₂ : List ℕ} {x : Option ℕ} (next : Option Unify.TyError → Does (Unit {0})) {err : TyError} {l : ℕ} → r ≡ Err (Failure.Bad err l)
      → ((T₁ : Rows) (b : Checker) → After f w ou w₁ ou₁ T d (only no_thing) (only one_diagnostic) l c T₁ b → OkError w₁ err
      → StepEnds f w₁ ou₁ w₂ ou₂ T₁ d 0 0 (done x) (next (Some (error_of T₁ err)) b)) → StepEnds f w ou w₂ ou₂ T d 0 0 (done x) (and_then first next)
  then_bad {w₂} {ou₂} {x} next {err} {l} e rest = then_ends (only no_thing) (only one_diagnostic) (only one_diagnostic) then_one Nothing first next
      (λ o. clash (cc (e, o))) B (λ y. meets) (λ s. (U d).is T c s fine) on
    where
      on : (a : Option Unify.TyError) (b : Checker) (g : Gone f w ou w₁ ou₁ T d 0 0 (unified w₁ r) a b 0) → Went Nothing no_thing c a b
          → Begins f w₁ ou₁ g.T' d (only one_diagnostic) b.state.left b → StepEnds f w₁ ou₁ w₂ ou₂ g.T' d 0 0 (done x) (next a b)
      on None b g v s = clash (cc (e, g.is))
      on (Some y) b g v s =
          let q : b.state.left ≡ l = cc (e, g.is.1) in
          let p : g.is.0 ≡ err = cc (e, g.is.1) in
          let z : error_of g.T' err ≡ y = ap (error_of g.T') (sym p) ∙ g.is.2.is in
          let ok : OkError w₁ err = rw p at g.is.2.ok in
          rw (← z) (rest g.T' b (record { more = g.more; grew = g.grew; made = v.made; begins = with_visits q s }) ok)

  then_spent : {x : Option ℕ} (next : Option Unify.TyError → Does (Unit {0})) → r ≡ Err Failure.Spent → x ≡ None
      → StepEnds f w ou w₁ ou₁ T d 0 0 (done x) (and_then first next)
  then_spent next e o = stop_ends (only no_thing) (only one_diagnostic) (only one_diagnostic) then_one first next never (λ p. o) B (λ s. (U d).is T c s fine)
    where
      never : (R : Rows) (a : Option Unify.TyError) (v : ℕ) → ¬ (IsUnified w₁ r R a v)
      never R None v i = clash (cc (e, i))
      never R (Some y) v i = clash (cc (e, i.1))

-- Where the visits run out in it, in `unify_at` and `compare_types`, what comes next is not done and the answer stays.
pub outside_spent : {f w ou w₁ : List ℕ} {got expected : Ty} {left : ℕ} {o : Option (Result (Unit {0}) TyError)} {x : Option (Unit {0})}
    {d : Described} {P : Rows → Checker → Type 0} (l : ℕ) (next : Rows → Option Unify.TyError → Does (Unit {0}))
    → UnifiesOutside w got expected left w₁ (ok_left o l) → o ≡ None → x ≡ None
    → ((T : Rows) (c : Checker) → P T c → Fine w got T c × Fine w expected T c)
    → Beside f w ou left w₁ ou (done (left_if x l)) d (only one_diagnostic) P (λ T c. and_then (Check.unify (tree T got) (tree T expected) c) (next T))
outside_spent {f} {ou = ou} l next U e z fine = rw z (record { is = λ T c B p. then_spent (U.is f ou) B (fine T c p) (next T) (ended l e) refl })

-- ---- `unify_at`
module _ {f w ou w₁ : List ℕ} (n : ℕ) {got expected : Ty} {left : ℕ} {r : Result ℕ Failure} (U : UnifiesOutside w got expected left w₁ r) where
  pub unite_good : {l : ℕ} → r ≡ Ok l → UnifiesAt f w ou n got expected left w₁ ou (Some l)
  unfolding Check.unify_at
  unite_good e = record {
    is = λ d there. record
        { is = λ T c B fine. then_good (U.is f ou) B fine _ e (λ T₁ b a. on_here a.begins.runs a.begins.lines a.begins.visits) };
  }

  pub unite_bad : {err : TyError} {l : ℕ} → r ≡ Err (Failure.Bad err l) → {w₂ ou₂ : List ℕ} {x : Option ℕ} → Rejected f w₁ ou n (report_message err) l w₂ ou₂ x
      → UnifiesAt f w ou n got expected left w₂ ou₂ x
  unfolding Check.unify_at
  unite_bad {err} {l} e q = (record {
    is = λ d there. record { is = λ T c B fine. then_bad (U.is f ou) B fine _ e (λ T₁ b a ok. (reports f w₁ n err l q d there).is T₁ b a.begins ok) };
  })

-- ---- `compare_order`

-- The checker with so many visits left.
abbrev leaving : Checker → ℕ → Checker
leaving c v = Check.with_state c (Bindings.with_left c.state v)

module _ {f w ou : List ℕ} {T : Rows} {d : Described} {left : ℕ} {c : Checker} (B : Begins f w ou T d (only one_diagnostic) left c) (v : ℕ) where
  leaving_runs : Runs f w T d (leaving c v)
  unfolding Check.with_state Bindings.with_left
  leaving_runs = runs_slots B.sound B.runs keeps_refl (holds_left B.runs.holds v) refl

module _ {f w ou : List ℕ} (lhs : ℕ) {t : Ty} {left : ℕ} {r : Option (Bool × ℕ)} (O : IsOrderable w t left r) where
  answered : {T : Rows} {d : Described} {c : Checker} → Begins f w ou T d (only one_diagnostic) left c → Fine w t T c
      → answer_of r ≡ Unify.orderable (Bindings.zonk c.state.subst (tree T t)) c.state.left
  answered {T = T} {c = c} B fine = rw B.visits
      (O.is T c.state.subst B.runs.holds.cells B.runs.holds.binds B.runs.holds.acyclic fine.ok)

  pub order_yes : {l : ℕ} → r ≡ Some (true, l) → ComparesOrder f w ou lhs t left w ou (Some l)
  unfolding Check.compare_order Check.orderable Check.ordered Check.zonk Check.with_state and_then Bindings.with_left
  order_yes {l} e = record {
    is = λ d there. record {
      is = λ T c B fine.
          let q : yes_left l ≡ Unify.orderable (Bindings.zonk c.state.subst (tree T t)) c.state.left = rw e at (answered B fine) in
          rw (← q) (ends_here tt (leaving c l) (leaving_runs B l) B.lines refl);
    };
  }

  pub order_no : {l : ℕ} → r ≡ Some (false, l) → {w' ou' : List ℕ} {x : Option ℕ} → Rejected f w ou lhs (Message.NoOrder t) l w' ou' x
      → ComparesOrder f w ou lhs t left w' ou' x
  unfolding Check.compare_order Check.orderable Check.ordered Check.zonk Check.with_state and_then Bindings.with_left
  order_no {l} e p = (record {
    is = λ d there. record {
      is = λ T c B fine.
          let q : no_left l ≡ Unify.orderable (Bindings.zonk c.state.subst (tree T t)) c.state.left = rw e at (answered B fine) in
          let m : Meets Nothing no_thing c (goes false (leaving c l)) = rw (← q) at (orderable_meets (tree T t) c B.orderly) in
          let g : Gone f w ou w ou T d 0 0 (silent l) tt (leaving c l) 0 = record
          { T' = T; more = more_refl; runs = leaving_runs B l; lines = B.lines; grew = grew_refl; is = refl } in
          rw (← q) (reject_ends (begun B g (going m)) lhs there (Message.NoOrder t) fine.ok p);
    };
  })
    where
      begun : {T : Rows} {d : Described} {c b : Checker} → Begins f w ou T d (only one_diagnostic) left c
          → (g : Gone f w ou w ou T d 0 0 (silent b.state.left) tt b 0) → Went Nothing no_thing c false b
          → Begins f w ou g.T' d (only one_diagnostic) b.state.left b
      begun B g v = begins_after (only no_thing) (only one_diagnostic) (only one_diagnostic) Nothing then_one g
          (record { orderly = v.orderly; made = v.made; reached = v.reached; holds = tt }) B

  pub order_spent : r ≡ None → ComparesOrder f w ou lhs t left (set w LEFT 0) ou None
  unfolding Check.compare_order Check.orderable Check.ordered Check.zonk Check.with_state and_then Bindings.with_left
  order_spent e = record {
    is = λ d there. record {
      is = λ T c B fine.
          let q : Bindings.spent ≡ Unify.orderable (Bindings.zonk c.state.subst (tree T t)) c.state.left = rw e at (answered B fine) in
          rw (zero_noted B.lines.left, ← q) (spent (record {
            T' = T;
            more = more_refl;
            runs = leaving_runs B 0;
            lines = B.lines;
            grew = grew_refl;
            is = (refl, not_come c.until w T c.diagnostics c.entries B.orderly.awaits);
          }));
    };
  }

-- ---- `compare_types`
module _ {f w ou w₁ : List ℕ} (lhs rhs : ℕ) {a b : Ty} {left : ℕ} {r : Result ℕ Failure} (U : UnifiesOutside w b a left w₁ r) where
  pub compare_good : {l : ℕ} → r ≡ Ok l → {w₂ ou₂ : List ℕ} {x : Option ℕ} → ComparesOrder f w₁ ou lhs a l w₂ ou₂ x
      → ComparesTypes f w ou lhs rhs a b left w₂ ou₂ x
  unfolding compare_types
  compare_good e O = record {
    is = λ d here there. record {
      is = λ T c B fine. then_good (U.is f ou) B (fine.1, fine.0) _ e
          (λ T₁ b₁ s. rw (← tree_after s a fine.0.ok) ((O.is d here).is T₁ b₁ s.begins (fine_after s a fine.0)));
    };
  }

  pub compare_bad : {err : TyError} {l : ℕ} → r ≡ Err (Failure.Bad err l) → {w₂ ou₂ : List ℕ} {x : Option ℕ}
      → Rejected f w₁ ou rhs (report_message err) l w₂ ou₂ x → ComparesTypes f w ou lhs rhs a b left w₂ ou₂ x
  unfolding compare_types
  compare_bad {err} {l} e q = (record {
    is = λ d here there. record {
      is = λ T c B fine. then_bad (U.is f ou) B (fine.1, fine.0) _ e
          (λ T₁ b₁ s ok. (reports f w₁ rhs err l q d there).is T₁ b₁ s.begins ok);
    };
  })
