-- The visits of a file's queries, by the runs of `check` alone: those of each query that ended within its ceiling, the ceiling of one that
-- was stopped by it, and none where no query had its turn. A call at a desk is charged them.
use Rattle.std.specs.Prelude.{Bool, true, false, List, [], ◌∷◌, ◌⊎◌, ◌≡◌, ℕ, ◌+◌, ◌≤◌, sum}
use Rattle.cabinet.specs.declared.Group.{Group}
use Rattle.cabinet.specs.declared.Account.{Account}
use Rattle.cabinet.specs.Accounts.{ceiling_in, charged_to}
use Rattle.cabinet.specs.Promises.{At}
use Rattle.cabinet.specs.Days.{UsedMore}
use Rattle.format.specs.Syntax.{Ast}
use Rattle.format.specs.Schema.{Schema}
use Rattle.format.specs.Refusal.{Refusal, answer_too_long, number}
use Rattle.format.specs.File.{Form, described, reading}
use Rattle.meaning.specs.Check.{Typed, typed, exhausted, check}
use Rattle.meaning.specs.Outcome.{Result, Accepted, Refused, min_words}
use Rattle.driver.specs.At.{desk_account}

-- Queries in turn, after the call has charged so many visits to its account: the visits of each, up to one that is stopped, and whether none is.
pub data InTurn (schema : Schema) (a : Account) : List Ast → ℕ → List ℕ → Bool → Type 0 where
  over : {n : ℕ} → InTurn schema a [] n [] true
  ended : {q : Ast} {qs : List Ast} {n : ℕ} {visits : List ℕ} {all : Bool} (t : Typed) → check (ceiling_in (charged_to a n)) schema q ≡ typed t
      → InTurn schema a qs (n + t.visits) visits all → InTurn schema a (q ∷ qs) n (t.visits ∷ visits) all
  stopped : {q : Ast} {qs : List Ast} {n : ℕ} → check (ceiling_in (charged_to a n)) schema q ≡ exhausted
      → InTurn schema a (q ∷ qs) n (ceiling_in (charged_to a n) ∷ []) false

-- The queries of a form; with an answer, or one that is longer than its slice, all of them have ended.
pub record Charges (form : Form) (g : Group) (d charge : ℕ) (r : Result) : Type 0 where
  pub charges : List ℕ
  pub all : Bool
  pub turns : InTurn form.schema (desk_account g d) form.queries 0 charges all
  pub sum : charge ≡ sum charges
  pub accepted : r ≡ Accepted → all ≡ true
  pub too_long : r ≡ Refused answer_too_long → all ≡ true

-- 1 to 10, 13 and 17: no query had its turn.
abbrev pub IsBeforeRuns : Refusal → Type 0
IsBeforeRuns i = (number i ≤ 10) ⊎ ((number i ≡ 13) ⊎ (number i ≡ 17))

-- A call that ended with this result, from the group g to the group h.
pub record Pays (g : Group) (d : ℕ) (f : List ℕ) (words : ℕ) (r : Result) (h : Group) : Type 0 where
  pub charge : ℕ
  pub used : UsedMore g d charge h
  pub nothing : (i : Refusal) → r ≡ Refused i → IsBeforeRuns i → charge ≡ 0
  pub queries : (form : Form) → At g d → min_words ≤ words → reading f ≡ described form → Charges form g d charge r
