-- What the plain solver promises: the definition's answer, and what the two slices then hold.
use Rattle.std.specs.Prelude.{List, ◌++◌, ◌≡◌, ℕ, ◌-◌, length, replicate, Err, Result}
use Rattle.unification.specs.Bindings.{State}
use Rattle.work.specs.Layout.{ENV, TYS}
use Rattle.cells.specs.declared.Ty.{Ty}
use Rattle.cells.specs.Stands.{Rows, tree, Ok, Holds, Keeps}
use Rattle.plain_theory.specs.Plain.{start}
use Rattle.plain_theory.specs.Solve.{solve}
use Rattle.plain_theory.specs.Answer as Answer
use Rattle.plain_theory.specs.Answer.{answer}
use Rattle.plain_theory.specs.Words.{bindings_spelled}
use Rattle.plain.specs.Stages.{GivesResult}
use Rattle.plain.specs.declared.Unsolved.{Unsolved}

-- ---- The engine on sides that are not shut out

-- In two halves of the slice; an odd word that was lent is left over.
pub record RunsEngine (w : List ℕ) (got expected : Ty) (l l' : List ℕ) (r : Result ℕ Unsolved) : Type 0 where
  pub is : (T : Rows) (st : State) → Holds w T st → Ok w got → Ok w expected
      → GivesResult l' r (solve (length l) (start st.subst (tree T got) (tree T expected)))
  pub long : length l' ≡ length l

-- ---- The whole

-- After a success the lent slice holds the bindings and then zeros, and the words that they take are told; else zeros throughout.
abbrev pub Left : List ℕ → ℕ → Result ℕ Unsolved → Answer.PlainAnswer → Type 0
Left l n r (Answer.Success bs) = (r ≡ Result.Ok (length (bindings_spelled bs))) × (l ≡ bindings_spelled bs ++ replicate (n - length (bindings_spelled bs)) 0)
Left l n r Answer.Failure = (r ≡ Err Unsolved.Failure) × (l ≡ replicate n 0)
Left l n r Answer.ShutOut = (r ≡ Err Unsolved.ShutOut) × (l ≡ replicate n 0)
Left l n r Answer.TooFew = (r ≡ Err Unsolved.TooFew) × (l ≡ replicate n 0)

-- w and l are the work slice and the lent slice before, w' and l' after. What is written of the work slice stands where the
-- environment was and behind it, up to the node types.
pub record Solves (w : List ℕ) (got expected : Ty) (l w' l' : List ℕ) (r : Result ℕ Unsolved) : Type 0 where
  pub is : (T : Rows) (st : State) → Holds w T st → Ok w got → Ok w expected
      → Left l' (length l) r (answer (length l) st.subst (tree T got) (tree T expected))
  pub long : length l' ≡ length l
  pub keeps : Keeps ENV TYS w w'
