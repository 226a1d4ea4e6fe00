-- Each cell of the first row has its cell exactly where the rest from here on has.
use Rattle.plain.proofs.Aliking.{Aliking}
use Rattle.plain.proofs.alike.Given as goal

abbrev pub invariant-loop : goal.invariant-loop
invariant-loop l = Aliking l.n l.left l.right l.rest l.counter
