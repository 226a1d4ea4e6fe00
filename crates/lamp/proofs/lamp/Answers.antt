-- `lamp::lamp` meets its contract: what was looked up, and the slice cleared.
use Rattle.lamp.proofs.Looking.{lights}
use Rattle.lamp.proofs.lamp.Goals as goal

pub returns-clause-is : goal.returns-clause-is
returns-clause-is c = lights c.look-r.ensures.is c.clear.ensures

pub returns-clause-spent : goal.returns-clause-spent
returns-clause-spent c = rw (← c.look-r.ensures.is.visits) c.look-r.ensures.spent
