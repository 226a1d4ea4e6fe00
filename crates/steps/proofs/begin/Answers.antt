-- The counters, then the node types.
use Rattle.steps.proofs.Starting.{starts_run}
use Rattle.steps.proofs.begin.Goals as goal

pub returns : goal.returns
returns c = starts_run _ _ c.begin_counters.ensures c.begin_types.ensures c.begin_lines.ensures c.begin_entries.ensures
