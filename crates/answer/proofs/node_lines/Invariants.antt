-- To write the lines from n on is to write them all.
use Rattle.answer.proofs.Noding.{Noding}
use Rattle.answer.proofs.node_lines.Given as goal

abbrev pub invariant-loop-n : goal.invariant-loop-n
invariant-loop-n l = Noding l.w l.fn.out l.fn.at l.n-end l.out l.n l.at
