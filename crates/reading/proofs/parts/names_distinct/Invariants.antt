-- No name passed repeats, and the marks are those of the names passed.
use Rattle.frames.specs.Promises.{half_w}
use Rattle.reading.proofs.Walks.{Telling, Seen}
use Rattle.reading.proofs.parts.names_distinct.Given as goal

abbrev pub invariant-loop-bytes : goal.invariant-loop-bytes
invariant-loop-bytes l = record {
  telling : Telling (λ p. half_w p 0) l.fields l.bytes-index;
  seen : Seen l.fields l.bytes-index l.seen;
}
