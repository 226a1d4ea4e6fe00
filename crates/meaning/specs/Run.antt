-- The run of `check` as a list of demand 3's calls (document 01, "What demand 3 speaks of").
use Rattle.std.specs.Prelude.{List, [], ◌≡◌, ℕ, ◌≤◌, length, replicate, None, Option}
use Rattle.unification.specs.Ty.{Ty}
use Rattle.unification.specs.Bindings.{State}
use Rattle.unification.specs.Unify.{Spent, unify}
use Rattle.unification.specs.Calls.{Side, Assignment, Machine, Calls, UnifyEntry, Claim}
use Rattle.unification.specs.Tie.{AllAsRobinson}
use Rattle.format.specs.Syntax.{Ast}
use Rattle.format.specs.Schema.{Schema}
use Rattle.meaning.specs.Diag.{Diagnostic}
use Rattle.meaning.specs.Check.{Until, the_end, first_diagnostic, entry, Checker, Step, goes, out, query, begin}

-- A list of calls, begun with these visits and annotations, has led to this state: the one after its last call, or the one in
-- which a unification passed the visit limit, which ends the list.
pub data Led (v : ℕ) (tys : List (Option Ty)) : State → Type 0 where
  between_calls : {m : Machine} → Calls v tys m → Led v tys m.state
  at_the_limit : {m : Machine} (a b : Ty) {st : State} → Calls v tys m → Side (length m.state.subst) a → Side (length m.state.subst) b
      → unify m.state a b ≡ Spent st → Led v tys st

-- What a run is to last until has not come, by its diagnostics and its entries.
abbrev pub NotYet : Until → List Diagnostic → List UnifyEntry → Type 0
NotYet the_end ds es = Unit {0}
NotYet first_diagnostic ds es = ds ≡ []
NotYet (entry n) ds es = length es ≤ n

-- Where a step ended, whether it goes on or the visits ran out in it.
unfoldable pub ending : {A : Type 0} → Step A → Checker
ending (goes a c) = c
ending (out c) = c

-- The run of a query, with this many visits allowed.
unfoldable pub run : Schema → Ast → ℕ → Step Ty
unfolding query begin
run schema ast ceiling = query schema ast.nodes ast.query (begin ceiling (length ast.nodes))

-- Demand 3 of the run: it is a list of calls, and the clauses hold at its end and, by the history, at every moment of it, (d) of every
-- rollback among them; whether the run goes to its end or passes the visit limit.
pub record RunDemand3 (schema : Schema) (ast : Ast) (ceiling : ℕ) : Type 0 where
  pub calls : Led ceiling (replicate (length ast.nodes) None) (ending (run schema ast ceiling)).state
  pub claim : Claim Assignment (ending (run schema ast ceiling)).state

-- Of every unification of the run, inner ones too, that demand 3's proviso admits: success found a most general unifier of the sides
-- and the earlier bindings, failure means that there is none.
abbrev pub RunAsRobinson : Schema → Ast → ℕ → Type 0
RunAsRobinson schema ast ceiling = AllAsRobinson (ending (run schema ast ceiling)).state.history
