-- The bindings, and the sides behind them.
use Rattle.spelling.proofs.Staging.{start_full, start_over, start_at}
use Rattle.spelling.proofs.start.Goals as goal

pub returns-in_err-sides : goal.returns-in_err-sides
returns-in_err-sides c = rw c.from_residual.ensures (start_full c.bindings.ensures c.in_err-sides.was)

pub returns-in_err-end : goal.returns-in_err-end
returns-in_err-end c = rw c.from_residual-in_err-end.ensures (start_over c.bindings.ensures c.in_ok-sides.was c.pair.ensures c.in_err-end.was)

pub returns : goal.returns
returns c = start_at c.bindings.ensures c.in_ok-sides.was c.pair.ensures c.in_ok-end.was
