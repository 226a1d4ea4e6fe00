-- So many entries have left.
use Rattle.state.proofs.Entries.{Leaving}
use Rattle.state.proofs.leave.Given as goal

abbrev pub invariant-loop-i : goal.invariant-loop-i
invariant-loop-i l = Leaving l.initial.w l.scope l.n l.w l.i
