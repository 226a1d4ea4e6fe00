-- The message is the one of `report_message`.
use Rattle.steps.proofs.report.Goals as goal

pub returns-clause-is : goal.returns-clause-is
returns-clause-is c = rw c.from.ensures at c.reject.ensures.is
