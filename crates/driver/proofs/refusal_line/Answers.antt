-- `driver::refusal_line` meets its contract.
use Rattle.driver.proofs.Lining.{line_of}
use Rattle.driver.proofs.refusal_line.Goals as goal

pub returns : goal.returns
returns c = rw (c.hex_digit-high.ensures, c.hex_digit-low.ensures) (line_of _ _ c.refusal_number-n.ensures)
