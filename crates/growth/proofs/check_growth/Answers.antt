-- `growth::check_growth` meets its contract: what was told, and then zeros.
use Rattle.growth.proofs.Telling.{cleared}
use Rattle.growth.proofs.check_growth.Goals as goal

pub returns : goal.returns
returns c = cleared c.compare-r.ensures c.clear.ensures
