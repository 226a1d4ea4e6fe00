-- A mark more, or one item more that has none to set.
use Rattle.admitted.proofs.Passing.{Passing}
use Rattle.admitted.proofs.pass.Given as goal

abbrev pub invariant-loop-i : goal.invariant-loop-i
invariant-loop-i l = Passing l.initial.w l.w l.i l.some
