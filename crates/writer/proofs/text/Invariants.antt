-- Where there is room for all of it, to write the text from the index on is to write all of it.
use Rattle.writer.proofs.Texting.{Filling}
use Rattle.writer.proofs.text.Given as goal

abbrev pub invariant-loop-b : goal.invariant-loop-b
invariant-loop-b l = Filling l.s l.initial.out l.at l.out l.b-index l.to
