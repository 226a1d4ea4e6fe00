use Rattle.answer.proofs.Unusing.{unused_next, unused_full, unused_done}
use Rattle.answer.proofs.unused_lines.Goals as goal

pub returns-in_err-at : goal.returns-in_err-at
returns-in_err-at c =
    rw c.from_residual.ensures (unused_full c.loop-i.invariant c.loop-i-test.true c.word.ensures c.wide.ensures.0 c.unused_line.ensures c.in_err-at.was)

pub loop-i-preserved : goal.loop-i-preserved
loop-i-preserved c = unused_next c.loop-i.invariant c.loop-i-test.true c.word.ensures c.wide.ensures.0 c.unused_line.ensures c.in_ok-at.was

pub returns : goal.returns
returns c = unused_done c.loop-i.invariant c.loop-i-test.false
