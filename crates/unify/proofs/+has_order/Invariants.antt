-- A call costs a visit, so the visits left fall. The answer for the row is the answer for the rest from j on. What the
-- last part that was asked cost is kept beside it.
use Prim.Native.Nat.{◌-◌}
use Rattle.unification.specs.Acyclic.{Acyclic}
use Rattle.cells.proofs.Asking.{orders, Asking, Ordered}
use Rattle.unify.proofs.+has_order.Given as goal

abbrev pub decreases-has_order : goal.decreases-has_order
decreases-has_order l = l.left

abbrev pub invariant-loop-j : goal.invariant-loop-j
invariant-loop-j l = Asking Acyclic orders l.w l.u (l.left - 1) l.j-end l.j l.rest × Ordered l.w l.last l.cost
