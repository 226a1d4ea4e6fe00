use Rattle.writer.proofs.Writing.{writes_one, full_one}
use Rattle.writer.proofs.one.Goals as goal

pub returns-then-at-out : goal.returns-then-at-out
returns-then-at-out g c = writes_one _ c.args.at c.args.x c.if-at-out.true

pub returns-else-at-out : goal.returns-else-at-out
returns-else-at-out g c = full_one _ c.args.at c.args.x c.if-at-out.false
