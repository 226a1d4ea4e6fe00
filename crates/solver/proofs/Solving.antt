-- The whole question: shut out where a side is not admitted, else as the engine ends; and what then stands in the lent slice.
use Rattle.std.proofs.Common.{◌≡◌, ℕ, ◌-◌, Bool, true, false, min, List, ◌++◌, length, take, replicate, Err, Result, ap, ◌∙◌, arith, length-append, length-take}
use Rattle.std.proofs.lemmas.List.{length-replicate}
use Rattle.std.specs.Result.{result_unwrap_or}
use Rattle.plain.specs.Slices.{slice}
use Rattle.unification.specs.Bindings.{State}
use Rattle.unification.specs.Calls.{Admitted}
use Rattle.cells.specs.declared.Ty.{Ty}
use Rattle.cells.specs.Stands.{Rows, tree, Ok, Holds}
use Rattle.admitted.specs.Marks.{good_w, Settles}
use Rattle.cells.proofs.Frame.{keeps_cells, ok_same}
use Rattle.admitted.proofs.Passing.{holds_settled, good_tells}
use Rattle.plain_theory.specs.Plain.{start, solved, failed, full}
use Rattle.plain_theory.specs.Plain as Theory
use Rattle.plain_theory.specs.Solve.{solve}
use Rattle.plain_theory.specs.Answer.{of}
use Rattle.plain_theory.specs.Words.{bindings_spelled}
use Rattle.plain_theory.proofs.Answers.{shut_out_exactly, admitted_answer}
use Rattle.plain.specs.Stages.{GivesResult}
use Rattle.plain.specs.declared.Unsolved.{Unsolved}
use Rattle.solver.specs.Promises.{RunsEngine, Left, Solves}

ok_settled : {w w₁ : List ℕ} → Settles w w₁ → (t : Ty) → Ok w t → Ok w₁ t
ok_settled S t o = ok_same (keeps_cells (omega arith) S.keeps) t o

-- l₁ is what was lent before its end was cleared, from n on.
module _ (l₁ : List ℕ) (r : Result ℕ Unsolved) {n : ℕ} (at : n ≡ min (result_unwrap_or r 0) (length l₁)) {l' : List ℕ}
    (c : l' ≡ take n l₁ ++ replicate (length l₁ - n) 0) where
  same_long : length l' ≡ length l₁
  same_long =
      ap length c ∙ length-append (take n l₁) (replicate (length l₁ - n) 0) ∙ omega (arith, length-take n l₁, length-replicate {A = ℕ} (length l₁ - n) 0)

  nothing : (e : Unsolved) → r ≡ Err e → l' ≡ replicate (length l₁) 0
  nothing e q =
      let u : result_unwrap_or r 0 ≡ 0 = rw q in
      let none : n ≡ 0 = omega arith in
      let all : length l₁ - 0 ≡ length l₁ = omega arith in
      c ∙ rw (none, all)

module _ {w w₁ l : List ℕ} {got expected : Ty} (S : Settles w w₁) (l₁ : List ℕ) {l' : List ℕ} {r : Result ℕ Unsolved} {n : ℕ}
    (at : n ≡ min (result_unwrap_or r 0) (length l₁)) (c : l' ≡ take n l₁ ++ replicate (length l₁ - n) 0) where
  -- A side is not admitted.
  solve_shut : l₁ ≡ l → r ≡ Err Unsolved.ShutOut
      → ((T : Rows) (st : State) → Holds w T st → Ok w got → Ok w expected → ¬ (Admitted st.subst (tree T got) × Admitted st.subst (tree T expected)))
      → Solves w got expected l w₁ l' r
  solve_shut e q no-side = record {
    is = λ T st H o p. rw ((shut_out_exactly (length l) st.subst H.acyclic (tree T got) (tree T expected)).1 (no-side T st H o p))
        (q, rw e at (nothing l₁ r at c Unsolved.ShutOut q));
    long = same_long l₁ r at c ∙ ap length e;
    keeps = S.keeps;
  }

  pub got_shut : l₁ ≡ l → r ≡ Err Unsolved.ShutOut → {g : Bool} → g ≡ good_w w₁ got → g ≡ false → Solves w got expected l w₁ l' r
  got_shut e q g bad = solve_shut e q (λ T st H o p a. (good_tells S H got o g).no bad a.0)

  pub expected_shut : l₁ ≡ l → r ≡ Err Unsolved.ShutOut → {g : Bool} → g ≡ good_w w₁ expected → g ≡ false → Solves w got expected l w₁ l' r
  expected_shut e q g bad = solve_shut e q (λ T st H o p a. (good_tells S H expected p g).no bad a.1)

  -- Both are.
  pub solve_runs : {x y : Bool} → x ≡ good_w w₁ got → x ≡ true → y ≡ good_w w₁ expected → y ≡ true → RunsEngine w₁ got expected l l₁ r
      → Solves w got expected l w₁ l' r
  unfolding of slice
  solve_runs g good-got h good-expected E = record {
    is = λ T st H o p.
        rw (admitted_answer (length l) st.subst H.acyclic (tree T got) (tree T expected) ((good_tells S H got o g).yes good-got)
        ((good_tells S H expected p h).yes good-expected))
        (go (solve (length l) (start st.subst (tree T got) (tree T expected)))
        (E.is T st (holds_settled S H) (ok_settled S got o) (ok_settled S expected p)));
    long = same_long l₁ r at c ∙ E.long;
    keeps = S.keeps;
  }
    where
      go : (x : Theory.PlainResult) → GivesResult l₁ r x → Left l' (length l) r (of x)
      go (solved bs) k =
          let some : result_unwrap_or r 0 ≡ length (bindings_spelled bs) = rw k.0 in
          let same : n ≡ length (bindings_spelled bs) = omega (arith, ap length k.1, length-take (length (bindings_spelled bs)) l₁) in
          (k.0, c ∙ rw (same, k.1, E.long))
      go failed k = (k, rw E.long at (nothing l₁ r at c Unsolved.Failure k))
      go full k = (k, rw E.long at (nothing l₁ r at c Unsolved.TooFew k))
