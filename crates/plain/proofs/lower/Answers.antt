use Rattle.plain.proofs.Slices.{writes_first}
use Rattle.plain.proofs.lower.Goals as goal

pub returns : goal.returns
returns c = writes_first c.requires c.copy.ensures
