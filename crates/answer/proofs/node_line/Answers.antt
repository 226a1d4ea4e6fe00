use Rattle.answer.proofs.Noding.{number_full, slot_full, line_ends}
use Rattle.answer.proofs.node_line.Goals as goal

pub returns-in_err-at : goal.returns-in_err-at
returns-in_err-at c = rw c.from_residual.ensures (number_full c.tagged.ensures c.in_err-at.was)

pub returns-in_err-at-2 : goal.returns-in_err-at-2
returns-in_err-at-2 c = rw c.from_residual-in_err-at-2.ensures (slot_full c.tagged.ensures c.in_ok-at.was c.slot.ensures c.in_err-at-2.was)

pub returns : goal.returns
returns c = line_ends c.tagged.ensures c.in_ok-at.was c.slot.ensures c.in_ok-at-2.was c.close.ensures
