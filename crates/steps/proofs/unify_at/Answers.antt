-- The definition's unification, and where it fails one diagnostic.
use Rattle.meaning.specs.Check.{unify_at}
use Rattle.state.proofs.Lefts.{succeeded, failed}
use Rattle.steps.proofs.Uniting.{unite_good, unite_bad, outside_spent}
use Rattle.steps.proofs.unify_at.Goals as goal

pub returns-in-Ok-clause-is : goal.returns-in-Ok-clause-is
returns-in-Ok-clause-is c = rw c.unify_outside.ensures.out (unite_good _ c.unify_outside.ensures.is (succeeded c.in_ok-unify_outside.was c.in-Ok.is))

pub returns-in-Err-clause-is : goal.returns-in-Err-clause-is
returns-in-Err-clause-is c = unite_bad _ c.unify_outside.ensures.is (failed c.in_ok-unify_outside.was _ c.in-Err.is)
    (rw (c.unify_outside.ensures.lent.0, c.unify_outside.ensures.out) at c.report.ensures.is)

pub returns-in_err-unify_outside-clause-is : goal.returns-in_err-unify_outside-clause-is
unfolding unify_at
returns-in_err-unify_outside-clause-is c = rw c.unify_outside.ensures.out (record {
  is = λ d there. outside_spent _ _ c.unify_outside.ensures.is c.in_err-unify_outside.was c.from_residual.ensures (λ T k fine. fine);
})
