-- Each query's run by the code is a list of demand 3's calls: `query` ends where the definition's run ends, and that is such a list.
use mathlib.Core.List.{List}
use Prim.Native.Nat.{ℕ}
use Rattle.unification.specs.Ty as Tree
use Rattle.cells.specs.Stands.{Rows}
use Rattle.format.specs.File.{Described}
use Rattle.meaning.specs.Check.{Step, goes, out, begin}
use Rattle.meaning.specs.Run.{run}
use Rattle.format.specs.Sound.{Sound}
use Rattle.meaning.proofs.Run.{sound_well_formed, run_demand_3, run_robinson}
use Rattle.tree.specs.Stands.{Stands}
use Rattle.state.specs.declared.Until.TheVariants as Until
use Rattle.checker.specs.Promises.{Ran, to_the_end, ended_early, run_until, Queries}
use Rattle.runs.specs.CodeRan.{StandsAt, CodeRan}
use Rattle.std.specs.Prelude.{Option}

stands_at : {f w buf : List ℕ} {d : Described} {r : Option ℕ} (s : Step Tree.Ty) → Ran f w buf d r s → StandsAt w r s
stands_at (goes ty c) (to_the_end T R t e) = (e, (T, R.holds))
stands_at (out c) (ended_early T R t k e) = (e, (T, R.holds))

pub code_ran : {f w buf w' buf' : List ℕ} {T : Rows} {d : Described} {ceiling : ℕ} {r : Option ℕ}
    → Sound d → Stands f w T d → Queries f w buf Until.TheEnd ceiling w' buf' r → CodeRan w' d ceiling r
unfolding run run_until begin
code_ran {T = T} {d} {ceiling} sound S Q =
    let wf = sound_well_formed d sound in
    record {
      stands = stands_at (run d.schema d.ast ceiling) (Q.is T d sound S);
      demand_3 = run_demand_3 d.schema d.ast wf ceiling;
      robinson = run_robinson d.schema d.ast wf ceiling;
    }
