-- Query by query (Placing.antt). The measure is what is left of the file.
use Rattle.std.proofs.Common.{◌-◌, length}
use Rattle.seek.proofs.Placing.{Placing}
use Rattle.seek.proofs.place_of.Given as goal

abbrev pub invariant-loop-at : goal.invariant-loop-at
invariant-loop-at l = Placing l.file l.n l.initial.work l.work l.at l.rest l.initial.purse l.purse

abbrev pub decreases-loop-at : goal.decreases-loop-at
decreases-loop-at l = length l.file - l.at
