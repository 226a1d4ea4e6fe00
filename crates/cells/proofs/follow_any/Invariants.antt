-- What is left to follow from `at` is what the whole would follow.
use Rattle.cells.proofs.Follow.{Following}
use Rattle.cells.proofs.follow_any.Given as goal

abbrev pub invariant-loop : goal.invariant-loop
invariant-loop l = Following l.w l.fn.t l.counter l.at
