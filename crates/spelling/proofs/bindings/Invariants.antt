-- To write the bindings from x on is to write them all.
use Rattle.spelling.proofs.Staging.{Listing}
use Rattle.spelling.proofs.bindings.Given as goal

abbrev pub invariant-loop-x : goal.invariant-loop-x
invariant-loop-x l = Listing l.w l.fn.l l.fn.at l.x-end l.l l.x l.at
