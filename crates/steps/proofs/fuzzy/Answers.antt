-- The distance, and then the term.
use Rattle.state.proofs.Lefts.{went_on, went_none}
use Rattle.steps.proofs.Besides.{fuzzy_on, fuzzy_out}
use Rattle.steps.proofs.fuzzy.Goals as goal

pub returns-clause-is : goal.returns-clause-is
returns-clause-is c = rw c.in_ok-fuzzy_term.was at (fuzzy_on _ _ _ c.fuzzy_distance.ensures.is (went_on c.in_ok-fuzzy_distance.was)
    (rw c.fuzzy_distance.ensures.lent.0 at c.fuzzy_term.ensures.is))

pub returns-in_err-fuzzy_distance-clause-is : goal.returns-in_err-fuzzy_distance-clause-is
returns-in_err-fuzzy_distance-clause-is c = rw c.from_residual.ensures (fuzzy_out _ _ _ c.fuzzy_distance.ensures.is (went_none _ c.in_err-fuzzy_distance.was))

pub returns-in_err-fuzzy_term-clause-is : goal.returns-in_err-fuzzy_term-clause-is
returns-in_err-fuzzy_term-clause-is c = rw c.from_residual-in_err-fuzzy_term.ensures
    (rw c.in_err-fuzzy_term.was at (fuzzy_on _ _ _ c.fuzzy_distance.ensures.is (went_on c.in_ok-fuzzy_distance.was)
    (rw c.fuzzy_distance.ensures.lent.0 at c.fuzzy_term.ensures.is)))
