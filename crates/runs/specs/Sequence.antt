-- The queries of a form, one after the other: the words between them, and what each query's run is there.
use Rattle.std.specs.Prelude.{List, [], ◌∷◌, ◌≡◌, ℕ, zero, suc, ◌<◌, length, Option, Some}
use Rattle.unification.specs.Calls as Calls
use Rattle.cells.specs.Stands.{Rows}
use Rattle.cells.specs.CodeCalls.{untyped, CodeCalls}
use Rattle.format.specs.File.{Described, Form, view_at}
use Rattle.loading.specs.Promises.{Loads}
use Rattle.state.specs.declared.Until.{Until}
use Rattle.state.specs.declared.Until.TheVariants as Until
use Rattle.steps.specs.Outside.{StartsRun}
use Rattle.checker.specs.Promises.{Queries}
use Rattle.runs.specs.CodeRan.{CodeRan}

-- From the words that the reading left to those that k queries left, with the place in the file where the next one's lines start, as the whole
-- call goes (`all_queries` of crates/driver): a query is loaded and its run made, under whatever ceiling and into whatever answer slice, and
-- where visits are left the next one's turn comes.
pub data AfterQueries (f w : List ℕ) : ℕ → ℕ → List ℕ → Type 0 where
  after_reading : AfterQueries f w zero 0 w
  after_query : {k at next ceiling left : ℕ} {v v₁ v₂ out out' : List ℕ} {u : Until} → AfterQueries f w k at v → Loads f at v v₁ next
      → Queries f v₁ out u ceiling v₂ out' (Some left) → AfterQueries f w (suc k) next v₂

-- The turn of a query from these words on. When its run begins, after `load` and `begin`, so does a list of the code's calls, on the schema
-- types that the reading left; and after its run the words stand for where that list has led.
pub record QueryCalls (f v : List ℕ) (at : ℕ) (rows : Rows) (d : Described) : Type 0 where
  pub begins : {next : ℕ} {v₁ v₂ : List ℕ} {u : Until} → Loads f at v v₁ next → StartsRun v₁ u v₂
      → (left : ℕ) → CodeCalls left (length d.ast.nodes) v₂ rows left [] (Calls.begin left (untyped (length d.ast.nodes)))
  pub ran : {next ceiling : ℕ} {v₁ v₂ out out' : List ℕ} {r : Option ℕ} → Loads f at v v₁ next → Queries f v₁ out Until.TheEnd ceiling v₂ out' r
      → CodeRan v₂ d ceiling r

-- So it is of each query of a form, the first and every later one.
abbrev pub EachCalls : List ℕ → List ℕ → Rows → Form → Type 0
EachCalls f w rows form = (k at : ℕ) (v : List ℕ) → AfterQueries f w k at v → k < length form.queries → QueryCalls f v at rows (view_at form k)
