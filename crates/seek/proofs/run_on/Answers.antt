use Rattle.std.proofs.Common.{refl, arith}
use Rattle.seek.proofs.Running.{passed_on, run_start, run_next, run_out, run_out_spends, run_end, run_end_spends}
use Rattle.seek.proofs.run_on.Goals as goal

pub loop-at-init : goal.loop-at-init
loop-at-init c = run_start _ _ _ _

pub returns-in_err-at-clause-is : goal.returns-in_err-at-clause-is
returns-in_err-at-clause-is c = rw (passed_on _ c.from_residual.ensures.1)
    (run_out c.loop-at.invariant c.loop-at-test.true c.in_err-at.ensures.is c.in_err-at.ensures.spent refl)

pub returns-in_err-at-clause-spent : goal.returns-in_err-at-clause-spent
returns-in_err-at-clause-spent c = run_out_spends c.loop-at.invariant c.loop-at-test.true c.in_err-at.ensures.is c.in_err-at.ensures.spent refl

pub loop-at-smaller : goal.loop-at-smaller
loop-at-smaller c = let o = c.in_ok-at.ensures.is.onward _ _ refl in omega (arith, o.0 c.loop-at-test.true, o.1)

pub loop-at-preserved : goal.loop-at-preserved
loop-at-preserved c = run_next c.loop-at.invariant c.loop-at-test.true c.in_ok-at.ensures.is c.in_ok-at.ensures.spent refl

pub returns-clause-is : goal.returns-clause-is
returns-clause-is c = run_end c.loop-at.invariant c.loop-at-test.false

pub returns-clause-spent : goal.returns-clause-spent
returns-clause-spent c = run_end_spends c.loop-at.invariant c.loop-at-test.false
