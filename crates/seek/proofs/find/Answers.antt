-- By where the entry is.
use Rattle.seek.proofs.Running.{passed_on}
use Rattle.seek.proofs.Reading.{find_at, find_fewer, find_out, find_at_spends, found_none_spends}
use Rattle.seek.proofs.find.Goals as goal

pub returns-in_err-at-clause-is : goal.returns-in_err-at-clause-is
returns-in_err-at-clause-is c = rw (passed_on _ c.from_residual.ensures.1) (find_out c.in_err-at.ensures.is)

pub returns-in_err-at-clause-spent : goal.returns-in_err-at-clause-spent
returns-in_err-at-clause-spent c = found_none_spends c.in_err-at.ensures.spent

pub returns-in_default-clause-is : goal.returns-in_default-clause-is
returns-in_default-clause-is c = find_fewer (rw c.in_default.is at c.in_ok-at.ensures.is)

pub returns-in_default-clause-spent : goal.returns-in_default-clause-spent
returns-in_default-clause-spent c = found_none_spends c.in_ok-at.ensures.spent

pub returns-clause-is : goal.returns-clause-is
returns-clause-is c = find_at (rw c.in-Some.is at c.in_ok-at.ensures.is) c.sides_at.ensures.is

pub returns-clause-spent : goal.returns-clause-spent
returns-clause-spent c = find_at_spends (rw c.in-Some.is at c.in_ok-at.ensures.is) c.in_ok-at.ensures.spent c.sides_at.ensures.spent
