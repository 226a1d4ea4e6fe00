-- The code's run of a query: what `query` gives back and what its words stand for (`Queries` of checker/specs/Promises.antt), joined with
-- demand 3 and Robinson's notions of that run.
use Rattle.std.specs.Prelude.{List, ◌≡◌, ℕ, None, Option, Some}
use Rattle.unification.specs.Ty as Tree
use Rattle.cells.specs.Stands.{Rows, Holds}
use Rattle.format.specs.File.{Described}
use Rattle.meaning.specs.Check.{Step, goes, out}
use Rattle.meaning.specs.Run.{run, RunDemand3, RunAsRobinson}

-- Where the definition's run ends, or where it runs out of visits, the words stand for its state; the code gives back the visits that it has
-- left, or that it ran out.
abbrev pub StandsAt : List ℕ → Option ℕ → Step Tree.Ty → Type 0
StandsAt w r (goes ty c) = (r ≡ Some c.state.left) × ((T : Rows) × Holds w T c.state)
StandsAt w r (out c) = (r ≡ None) × ((T : Rows) × Holds w T c.state)

pub record CodeRan (w : List ℕ) (d : Described) (ceiling : ℕ) (r : Option ℕ) : Type 0 where
  pub stands : StandsAt w r (run d.schema d.ast ceiling)
  pub demand_3 : RunDemand3 d.schema d.ast ceiling
  pub robinson : RunAsRobinson d.schema d.ast ceiling
