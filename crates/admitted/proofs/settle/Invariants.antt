-- Passes until one sets no mark; each other leaves fewer that do not stand.
use Rattle.admitted.specs.Marks.{unmarked}
use Rattle.admitted.proofs.Passing.{Settling}
use Rattle.admitted.proofs.settle.Given as goal

abbrev pub invariant-loop : goal.invariant-loop
invariant-loop l = Settling l.initial.w l.w

abbrev pub decreases-loop : goal.decreases-loop
decreases-loop l = unmarked l.w 1280
