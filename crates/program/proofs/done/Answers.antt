-- `program::done` meets its contract: each job is one call.
use Rattle.program.proofs.Jobs.{checked, widened, narrowed}
use Rattle.program.proofs.done.Goals as goal

pub returns-in-Check : goal.returns-in-Check
returns-in-Check c = checked _ _ c.in-Check.is c.check_file.ensures.is

pub returns-in-Widen : goal.returns-in-Widen
returns-in-Widen c = widened _ _ c.in-Widen.is c.widen.ensures

pub returns-in-Narrow : goal.returns-in-Narrow
returns-in-Narrow c = narrowed _ _ c.in-Narrow.is c.narrow.ensures
