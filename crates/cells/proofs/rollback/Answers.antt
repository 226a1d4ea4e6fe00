use Rattle.std.proofs.Common.{arith, ◌-◌, ◌∙◌}
use Rattle.cells.proofs.Rolling.{roll_start, roll_next, roll_end}
use Rattle.cells.proofs.rollback.Goals as goal

pub loop-n-init : goal.loop-n-init
loop-n-init c = roll_start c.word-n.ensures

pub loop-n-preserved : goal.loop-n-preserved
loop-n-preserved c = roll_next c.loop-n.invariant c.put.new.w (c.loop-n.n - 1) (omega arith) c.loop-n-test.true
    (c.put.ensures ∙ rw (c.revert.ensures, c.word-entry.ensures, c.wide.ensures.0))

pub returns : goal.returns
returns c = roll_end c.loop-n.invariant c.loop-n-test.false
