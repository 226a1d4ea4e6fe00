use Rattle.std.proofs.Common.{refl, arith}
use Rattle.seek.proofs.Running.{passed_on}
use Rattle.seek.proofs.Placing.{place_start, place_next, place_here, place_late, place_out, place_end}
use Rattle.seek.proofs.Placing.{place_rest_spends, place_out_spends, place_end_spends}
use Rattle.seek.proofs.place_of.Goals as goal

pub loop-at-init : goal.loop-at-init
loop-at-init c = place_start _ _ _ _

pub returns-in_err-next-clause-is : goal.returns-in_err-next-clause-is
returns-in_err-next-clause-is c = rw (passed_on _ c.from_residual.ensures.1)
    (place_out c.loop-at.invariant c.loop-at-test.true c.in_err-next.ensures.is c.in_err-next.ensures.spent refl)

pub returns-in_err-next-clause-spent : goal.returns-in_err-next-clause-spent
returns-in_err-next-clause-spent c =
    place_out_spends c.loop-at.invariant c.loop-at-test.true c.in_err-next.ensures.is c.in_err-next.ensures.spent refl

pub returns-in_err-run_on-clause-is : goal.returns-in_err-run_on-clause-is
returns-in_err-run_on-clause-is c = rw (passed_on _ c.from_residual-in_err-run_on.ensures.1)
    (place_late c.loop-at.invariant c.loop-at-test.true c.in_ok-next.ensures.is c.in_ok-next.ensures.spent refl c.if-rest-entries.true
    c.in_err-run_on.ensures.is refl)

pub returns-in_err-run_on-clause-spent : goal.returns-in_err-run_on-clause-spent
returns-in_err-run_on-clause-spent c = place_rest_spends c.loop-at.invariant c.loop-at-test.true c.in_ok-next.ensures.is c.in_ok-next.ensures.spent refl
    c.if-rest-entries.true c.in_err-run_on.ensures.is c.in_err-run_on.ensures.spent

pub returns-then-rest-entries-clause-is : goal.returns-then-rest-entries-clause-is
returns-then-rest-entries-clause-is c = place_here c.loop-at.invariant c.loop-at-test.true c.in_ok-next.ensures.is c.in_ok-next.ensures.spent refl
    c.if-rest-entries.true c.in_ok-run_on.ensures.is refl

pub returns-then-rest-entries-clause-spent : goal.returns-then-rest-entries-clause-spent
returns-then-rest-entries-clause-spent c = place_rest_spends c.loop-at.invariant c.loop-at-test.true c.in_ok-next.ensures.is c.in_ok-next.ensures.spent refl
    c.if-rest-entries.true c.in_ok-run_on.ensures.is c.in_ok-run_on.ensures.spent

pub loop-at-smaller : goal.loop-at-smaller
loop-at-smaller c = let o = c.in_ok-next.ensures.is.onward _ _ refl in omega (arith, o.0 c.loop-at-test.true, o.1)

pub loop-at-preserved : goal.loop-at-preserved
loop-at-preserved c = place_next c.loop-at.invariant c.loop-at-test.true c.in_ok-next.ensures.is c.in_ok-next.ensures.spent refl c.if-rest-entries.false

pub returns-clause-is : goal.returns-clause-is
returns-clause-is c = place_end c.loop-at.invariant c.loop-at-test.false

pub returns-clause-spent : goal.returns-clause-spent
returns-clause-spent c = place_end_spends c.loop-at.invariant c.loop-at-test.false
