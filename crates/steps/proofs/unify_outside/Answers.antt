-- The entry is noted; it is made, or the run was to last until here. Where the visits ran out that is noted once more.
use mathlib.Core.Path.{refl}
use Rattle.state.proofs.Lefts.{went_on, went_none}
use Rattle.steps.proofs.Besides.{outside_made, outside_noted, outside_out}
use Rattle.steps.proofs.unify_outside.Goals as goal

pub returns-in-Some-clause-is : goal.returns-in-Some-clause-is
returns-in-Some-clause-is c =
    outside_made _ c.enter.ensures.is (went_on c.in_ok-enter.was) (rw c.in-Some.is at c.unify.ensures.is.0)

pub returns-in-None-clause-is : goal.returns-in-None-clause-is
returns-in-None-clause-is c = rw c.put.ensures
    (outside_noted _ c.enter.ensures.is (went_on c.in_ok-enter.was) (rw c.in-None.is at c.unify.ensures.is.0) refl)

pub returns-in_err-enter-clause-is : goal.returns-in_err-enter-clause-is
returns-in_err-enter-clause-is c = rw c.from_residual.ensures (outside_out _ c.enter.ensures.is (went_none _ c.in_err-enter.was))
