-- `program::lamp_line` meets its contract.
use Rattle.program.proofs.Lamps.{lamp_printed}
use Rattle.program.proofs.lamp_line.Goals as goal

pub returns : goal.returns
returns c = lamp_printed c.lamp-arg-1.given.0.1 c.lamp-l.ensures.is c.line.ensures
