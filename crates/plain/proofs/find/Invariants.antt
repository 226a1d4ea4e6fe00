-- What is sought in the row is what is sought in the rest from here on.
use Rattle.plain.proofs.Finding.{Finding}
use Rattle.plain.proofs.find.Given as goal

abbrev pub invariant-loop : goal.invariant-loop
invariant-loop l = Finding l.row l.n l.key l.rest l.counter
