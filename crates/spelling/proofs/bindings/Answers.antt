use Rattle.spelling.proofs.Staging.{listing_next, listing_full, listing_end}
use Rattle.spelling.proofs.bindings.Goals as goal

pub returns-in_err-at : goal.returns-in_err-at
returns-in_err-at c = rw c.from_residual.ensures (listing_full c.loop-x.invariant c.loop-x-test.true c.binding.ensures c.in_err-at.was)

pub loop-x-preserved : goal.loop-x-preserved
loop-x-preserved c = listing_next c.loop-x.invariant c.loop-x-test.true c.binding.ensures c.in_ok-at.was

pub returns : goal.returns
returns c = listing_end c.loop-x.invariant c.loop-x-test.false
