-- Each turn takes the newest entry back.
use Rattle.cells.proofs.Rolling.{Rolling}
use Rattle.cells.proofs.rollback.Given as goal

abbrev pub invariant-loop-n : goal.invariant-loop-n
invariant-loop-n l = Rolling l.initial.w l.mark l.w l.n
