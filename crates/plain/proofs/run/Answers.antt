-- The upper half is the stage, and the lower half comes first.
use Rattle.std.proofs.Common.{arith}
use Rattle.plain.proofs.Running.{run_raised}
use Rattle.plain.proofs.run.Goals as goal

pub returns : goal.returns
returns c = run_raised (omega arith) c.requires c.split_at_mut-low.ensures.front c.split_at_mut-low.ensures.back _ c.turns.auto.high c.turns.ensures
