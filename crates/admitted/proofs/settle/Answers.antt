use Rattle.admitted.proofs.Passing.{settled_short, settling_start, settling_next, settling_less, settling_end}
use Rattle.admitted.proofs.settle.Goals as goal

pub returns-then-w-lt-TYS : goal.returns-then-w-lt-TYS
returns-then-w-lt-TYS c = settled_short c.if-w-lt-TYS.true

pub loop-init : goal.loop-init
loop-init c = settling_start c.if-w-lt-TYS.false c.unmark.ensures

pub loop-smaller : goal.loop-smaller
loop-smaller c = settling_less c.loop.invariant c.pass.ensures c.loop-test.true

pub loop-preserved : goal.loop-preserved
loop-preserved c = settling_next c.loop.invariant c.pass.ensures

pub returns : goal.returns
returns c = settling_end c.loop.invariant c.pass.ensures c.unmark.ensures c.loop-test.false
