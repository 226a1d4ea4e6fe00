use Rattle.state.proofs.Entries.{leaving_start, leaving_next, leaving_done}
use Rattle.state.proofs.leave.Goals as goal

pub loop-i-init : goal.loop-i-init
loop-i-init c = leaving_start _ _ _

pub loop-i-preserved : goal.loop-i-preserved
loop-i-preserved c = leaving_next c.loop-i.invariant c.loop-i-test.true c.word-e.ensures c.wide.ensures.0 c.leave_entry.ensures c.leave_entry.auto.w

pub returns : goal.returns
returns c = leaving_done c.loop-i.invariant c.loop-i-test.false c.word-n.ensures c.put.ensures
