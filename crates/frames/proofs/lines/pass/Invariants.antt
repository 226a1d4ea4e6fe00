use Prim.Native.Nat.{◌-◌}
use Rattle.frames.proofs.Passing.{Seeking}
use Rattle.frames.proofs.lines.pass.Given as goal

abbrev pub invariant-loop-i : goal.invariant-loop-i
invariant-loop-i l = Seeking l.file l.at l.kind l.end l.i

abbrev pub decreases-loop-i : goal.decreases-loop-i
decreases-loop-i l = l.end - l.i

abbrev pub invariant-loop-i-2 : goal.invariant-loop-i-2
invariant-loop-i-2 l = Seeking l.file l.at l.kind l.end l.i

abbrev pub decreases-loop-i-2 : goal.decreases-loop-i-2
decreases-loop-i-2 l = l.end - l.i
