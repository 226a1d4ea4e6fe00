-- `driver::heading` meets its contract.
use Rattle.driver.proofs.Turning.{no_heading, heading_after, heading_full}
use Rattle.driver.proofs.heading.Goals as goal

pub returns-else-is_one_of_several : goal.returns-else-is_one_of_several
returns-else-is_one_of_several c = record {
  there_are = _;
  tells = c.is_one_of_several.ensures;
  follows = no_heading _ _ _ c.if-is_one_of_several.false;
}

pub returns-in_ok-turn : goal.returns-in_ok-turn
returns-in_ok-turn c = record {
  there_are = _;
  tells = c.is_one_of_several.ensures;
  follows = heading_after _ c.if-is_one_of_several.true c.in_ok-turn.was c.number_line.ensures;
}

pub returns-in_err-turn : goal.returns-in_err-turn
returns-in_err-turn c = rw c.from_residual.ensures (record {
  there_are = _;
  tells = c.is_one_of_several.ensures;
  follows = heading_full _ c.if-is_one_of_several.true _ _ c.in_err-turn.was;
})
