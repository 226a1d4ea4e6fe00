-- `driver::stop` meets its contract.
use Rattle.driver.proofs.Opening.{stop_under, stop_limit}
use Rattle.driver.proofs.stop.Goals as goal

pub returns-then-ceiling-lt-VISITS : goal.returns-then-ceiling-lt-VISITS
returns-then-ceiling-lt-VISITS c = stop_under _ c.if-ceiling-lt-VISITS.true

pub returns-else-ceiling-lt-VISITS : goal.returns-else-ceiling-lt-VISITS
returns-else-ceiling-lt-VISITS c = stop_limit _ c.if-ceiling-lt-VISITS.false
