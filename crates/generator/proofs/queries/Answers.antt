use Rattle.testload.specs.Rule.{counts}
use Rattle.writer.proofs.Writing.{goes_start, goes_next, goes_full, goes_done}
use Rattle.generator.proofs.Nodes.{queries_start, queries_next, queries_end}
use Rattle.generator.proofs.queries.Goals as goal

pub loop-q-init : goal.loop-q-init
unfolding counts
loop-q-init c = goes_start _ _ _ _ c.requires (queries_start _ _ c.choice.ensures.value c.choice.ensures.upper_bound)

pub returns-in_err-at : goal.returns-in_err-at
returns-in_err-at c =
    rw c.from_residual.ensures (goes_full c.loop-q.invariant _ _ (queries_next _ _ c.loop-q.q c.loop-q-test.true) c.query.ensures c.in_err-at.was)

pub loop-q-preserved : goal.loop-q-preserved
loop-q-preserved c = goes_next c.loop-q.invariant _ _ (queries_next _ _ c.loop-q.q c.loop-q-test.true) c.query.ensures c.in_ok-at.was

pub returns : goal.returns
returns c = goes_done c.loop-q.invariant (queries_end _ _ c.loop-q.q c.loop-q-test.false)
