-- What is left to follow from x is what the whole would follow.
use Rattle.cells.specs.declared.Ty.TheVariants.{Var}
use Rattle.cells.proofs.Follow.{Following}
use Rattle.cells.proofs.follow_within.Given as goal

abbrev pub invariant-loop : goal.invariant-loop
invariant-loop l = Following l.w (Var l.from) l.counter (Var l.x)
