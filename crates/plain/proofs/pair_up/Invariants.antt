-- To write the pairs of the rest from here on is to write the pairs of the whole row.
use Rattle.plain.proofs.Pairing.{Pairing}
use Rattle.plain.proofs.pair_up.Given as goal

abbrev pub invariant-loop : goal.invariant-loop
invariant-loop l = Pairing l.n l.left l.right l.initial.out l.at l.out l.rest l.counter l.to
