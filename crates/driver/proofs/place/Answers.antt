-- `driver::place` meets its contract.
use Rattle.driver.proofs.Turning.{placed}
use Rattle.driver.proofs.place.Goals as goal

pub returns : goal.returns
returns c = placed c.args.page c.unwrap_or.ensures c.min.ensures
