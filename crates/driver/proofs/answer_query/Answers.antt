-- `driver::answer_query` meets its contract: the run, and its lines where it ended.
use native.Mathlib.Omega.{arith}
use Rattle.driver.proofs.Turning.{run_out, run_on}
use Rattle.driver.proofs.answer_query.Goals as goal

pub returns-in_err-left-clause-is : goal.returns-in_err-left-clause-is
returns-in_err-left-clause-is c = rw c.from_residual.ensures (run_out c.query.ensures.is c.in_err-left.was)

pub returns-in_err-left-clause-spent : goal.returns-in_err-left-clause-spent
returns-in_err-left-clause-spent c = rw c.from_residual.ensures (omega (arith, c.query.ensures.pays))

pub returns-clause-is : goal.returns-clause-is
returns-clause-is c = run_on c.query.ensures.is _ c.in_ok-left.was _ c.saturating_sub-visits.ensures c.write.ensures

pub returns-clause-spent : goal.returns-clause-spent
returns-clause-spent c = omega (arith, c.query.ensures.pays, c.query.ensures.noted.back _ c.in_ok-left.was, c.saturating_sub-visits.ensures)
