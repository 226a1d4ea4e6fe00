-- What the run left, cleared.
use Rattle.converters.proofs.Running.{cleared}
use Rattle.converters.proofs.convert_file.Goals as goal

pub returns : goal.returns
returns c = cleared _ c.run-r.ensures c.clear_after.ensures
