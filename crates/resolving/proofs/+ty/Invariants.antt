-- What stands before the parts is written first, so the room left falls. To write the parts from j on is to write them all.
use Rattle.std.proofs.Common.{◌-◌, length}
use Rattle.resolving.proofs.Typing.{Typing}
use Rattle.resolving.proofs.+ty.Given as goal

abbrev pub decreases-ty : goal.decreases-ty
decreases-ty g l = length l.out.now - l.at

abbrev pub invariant-loop-j : goal.invariant-loop-j
invariant-loop-j g l = Typing g.S.Script.script l.w l.initial.out l.initial.at l.u l.j-end l.out l.j l.at
