-- `driver::check_file` meets its contract: what `run` left without a desk, cleared.
use Rattle.driver.proofs.Deciding.{checks_file}
use Rattle.driver.proofs.check_file.Goals as goal

pub returns-clause-is : goal.returns-clause-is
returns-clause-is c = checks_file c.run-s.ensures.is c.clear_after.ensures
