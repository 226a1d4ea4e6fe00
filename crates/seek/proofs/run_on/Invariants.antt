-- Query by query. The measure is what is left of the file.
use Rattle.std.proofs.Common.{◌-◌, length}
use Rattle.seek.proofs.Running.{Running}
use Rattle.seek.proofs.run_on.Given as goal

abbrev pub invariant-loop-at : goal.invariant-loop-at
invariant-loop-at l = Running l.file l.from l.initial.work l.work l.at l.initial.purse l.purse

abbrev pub decreases-loop-at : goal.decreases-loop-at
decreases-loop-at l = length l.file - l.at
