use Rattle.writer.proofs.Writing.{Copying}
use Rattle.writer.proofs.copy.Given as goal

abbrev pub invariant-loop-i : goal.invariant-loop-i
invariant-loop-i g l = Copying l.s l.initial.out l.at l.out l.i
