use Rattle.answer.proofs.Noding.{nodes_next, nodes_full, nodes_done}
use Rattle.answer.proofs.node_lines.Goals as goal

pub returns-in_err-at : goal.returns-in_err-at
returns-in_err-at c = rw c.from_residual.ensures (nodes_full c.loop-n.invariant c.loop-n-test.true c.node_line.ensures c.in_err-at.was)

pub loop-n-preserved : goal.loop-n-preserved
loop-n-preserved c = nodes_next c.loop-n.invariant c.loop-n-test.true c.node_line.ensures c.in_ok-at.was

pub returns : goal.returns
returns c = nodes_done c.loop-n.invariant c.loop-n-test.false
