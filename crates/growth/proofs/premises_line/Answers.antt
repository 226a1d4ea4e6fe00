use Rattle.growth.proofs.Telling.{line_is}
use Rattle.growth.proofs.premises_line.Goals as goal

pub returns : goal.returns
returns c = line_is c.args.p _ c.premises_number.ensures
