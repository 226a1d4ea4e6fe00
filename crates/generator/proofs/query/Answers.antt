use Rattle.generator.proofs.Rows.{left_start, left_next, left_full, left_last}
use Rattle.generator.proofs.Lines.{slots}
use Rattle.generator.proofs.Nodes.{query_start, query_next, query_last}
use Rattle.generator.proofs.query.Goals as goal

pub loop-i-init : goal.loop-i-init
loop-i-init c = left_start _ _ _ _ (rw (← c.plan-blocks.ensures.count) at (query_start _ c.args.q _ c.choice-v.ensures.value c.choice-v.ensures.upper_bound))

pub returns-in_err-at : goal.returns-in_err-at
unfolding slots
returns-in_err-at c = rw c.from_residual.ensures (left_full c.loop-i.invariant _ _
    (query_next _ c.args.q _ c.loop-i.i _ c.loop-i-test.true c.choice.ensures.value c.choice.ensures.upper_bound)
    (rw (c.cells.ensures c.loop-i.i) at c.node.ensures) c.in_err-at.was)

pub loop-i-preserved : goal.loop-i-preserved
unfolding slots
loop-i-preserved c = left_next c.loop-i.invariant _ _
    (query_next _ c.args.q _ c.loop-i.i _ c.loop-i-test.true c.choice.ensures.value c.choice.ensures.upper_bound)
    (rw (c.cells.ensures c.loop-i.i) at c.node.ensures) c.in_ok-at.was

pub returns : goal.returns
returns c = left_last c.loop-i.invariant _
    (query_last _ c.args.q _ c.choice-v.ensures.value c.choice-v.ensures.upper_bound _ c.loop-i.i c.loop-i-test.false)
    (rw (c.plan-blocks.ensures.cells 0) at c.line.ensures)
