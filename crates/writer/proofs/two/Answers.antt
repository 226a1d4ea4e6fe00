use Rattle.writer.proofs.Writing.{writes_then}
use Rattle.writer.proofs.two.Goals as goal

pub returns : goal.returns
returns g c = writes_then c.one.ensures c.in_ok-at.was c.one-2.ensures
