-- The nodes of the statements passed are there and marked, and the statements left fill what is left.
use Prim.Native.Nat.{ℕ}
use lib.ListN.{length}
use Rattle.reading.proofs.Stating.{Stating, Rest}
use Rattle.reading.proofs.nodes.name_statements.Given as goal

abbrev pub invariant-loop-rest : goal.invariant-loop-rest
invariant-loop-rest l = (at : ℕ) × Rest l.s at l.rest × Stating l.s l.initial.w l.nodes at l.w

abbrev pub decreases-loop-rest : goal.decreases-loop-rest
decreases-loop-rest l = length l.rest
