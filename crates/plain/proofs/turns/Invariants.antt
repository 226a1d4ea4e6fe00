-- The stage that stands in its half has the result of the first; the measure is unknowns first, then words.
use Rattle.std.proofs.Common.{◌+◌, ◌*◌, length}
use Rattle.plain.proofs.Running.{Running, half_at}
use Rattle.plain.proofs.turns.Given as goal

abbrev pub invariant-loop-up : goal.invariant-loop-up
invariant-loop-up l = Running l.initial.high l.fn.b l.fn.e (half_at l.up l.low l.high) (half_at l.up l.high l.low) l.b l.p l.e l.unknowns l.words

abbrev pub decreases-loop-up : goal.decreases-loop-up
decreases-loop-up l = l.unknowns * (length l.initial.high + 1) + l.words
