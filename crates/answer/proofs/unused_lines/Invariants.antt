-- To write the lines from i on is to write them all.
use Rattle.answer.proofs.Unusing.{Unusing}
use Rattle.answer.proofs.unused_lines.Given as goal

abbrev pub invariant-loop-i : goal.invariant-loop-i
invariant-loop-i l = Unusing l.f l.w l.fn.out l.fn.at l.i-end l.out l.i l.at
