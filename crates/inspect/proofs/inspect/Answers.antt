-- What was answered on a cleared work slice, which is cleared again.
use lib.ListN.{length-replicate}
use Rattle.inspect.proofs.Answering.{inspects}
use Rattle.inspect.proofs.inspect.Goals as goal

pub returns-clause-is : goal.returns-clause-is
returns-clause-is c = inspects c.clear.ensures c.answer-answered.ensures.is c.clear-2.ensures

pub returns-clause-spent : goal.returns-clause-spent
returns-clause-spent c = rw (c.clear.ensures, length-replicate) at c.answer-answered.ensures.spent
