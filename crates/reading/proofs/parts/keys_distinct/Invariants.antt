-- No key passed repeats.
use Rattle.reading.proofs.Walks.{Telling}
use Rattle.reading.proofs.parts.keys_distinct.Given as goal

abbrev pub invariant-loop-i : goal.invariant-loop-i
invariant-loop-i g l = Telling g.K.Keyed.key l.parts l.i
