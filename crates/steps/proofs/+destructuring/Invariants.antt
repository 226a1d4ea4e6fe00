-- A record's fields are lower nodes, so the node number falls; the walk over the fields stands below the record. The
-- answer for all fields is that for the fields from i on.
use Prim.Native.Nat.{◌+◌, ◌*◌}
use Rattle.steps.proofs.Unvisited.{Asking}
use Rattle.steps.proofs.+destructuring.Given as goal

abbrev pub decreases-destructurable : goal.decreases-destructurable
decreases-destructurable l = 2 * l.n + 1

abbrev pub decreases-all_destructurable : goal.decreases-all_destructurable
decreases-all_destructurable l = 2 * l.items.below

abbrev pub invariant-all_destructurable-loop-i : goal.invariant-all_destructurable-loop-i
invariant-all_destructurable-loop-i l = Asking l.f l.w l.items l.i
