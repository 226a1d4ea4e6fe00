use Rattle.text.proofs.Reading.{Reading}
use Rattle.text.proofs.value.Given as goal

abbrev pub invariant-loop-b : goal.invariant-loop-b
invariant-loop-b l = Reading l.head l.later l.b-index l.value
