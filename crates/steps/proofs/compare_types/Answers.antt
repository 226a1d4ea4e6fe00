-- The definition's unification, and then the order; where it fails one diagnostic.
use Rattle.state.proofs.Lefts.{succeeded, failed}
use Rattle.steps.specs.Promises.{compare_types}
use Rattle.steps.proofs.Uniting.{compare_good, compare_bad, outside_spent}
use Rattle.steps.proofs.compare_types.Goals as goal

pub returns-in-Ok-clause-is : goal.returns-in-Ok-clause-is
returns-in-Ok-clause-is c = compare_good _ _ c.unify_outside.ensures.is (succeeded c.in_ok-unify_outside.was c.in-Ok.is)
    (rw (c.unify_outside.ensures.lent.0, c.unify_outside.ensures.out) at c.compare_order.ensures.is)

pub returns-in-Err-clause-is : goal.returns-in-Err-clause-is
returns-in-Err-clause-is c = compare_bad _ _ c.unify_outside.ensures.is (failed c.in_ok-unify_outside.was _ c.in-Err.is)
    (rw (c.unify_outside.ensures.lent.0, c.unify_outside.ensures.out) at c.report.ensures.is)

pub returns-in_err-unify_outside-clause-is : goal.returns-in_err-unify_outside-clause-is
unfolding compare_types
returns-in_err-unify_outside-clause-is c = rw c.unify_outside.ensures.out (record {
  is = λ d here there. outside_spent _ _ c.unify_outside.ensures.is c.in_err-unify_outside.was c.from_residual.ensures (λ T k fine. (fine.1, fine.0));
})
