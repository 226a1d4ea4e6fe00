-- `driver::uses_add_up` meets its contract.
use Rattle.driver.proofs.Days.{uses_add_up}
use Rattle.driver.proofs.uses_add_up.Goals as goal

pub returns : goal.returns
returns c = uses_add_up
