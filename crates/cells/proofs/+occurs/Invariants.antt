-- A call costs a visit, so the visits left fall. The answer for the row is the answer for the rest from j on. What the
-- last part that was asked cost is kept beside it.
use Prim.Native.Nat.{◌-◌}
use Rattle.cells.proofs.Asking.{Any, asks, Asking, Outside}
use Rattle.cells.proofs.+occurs.Given as goal

abbrev pub decreases-occurs : goal.decreases-occurs
decreases-occurs l = l.left

abbrev pub invariant-loop-j : goal.invariant-loop-j
invariant-loop-j l = Asking Any (asks l.x) l.w l.u (l.left - 1) l.j-end l.j l.rest × Outside l.w l.x l.last l.cost
