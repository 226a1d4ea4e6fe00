use Rattle.plain.proofs.Aliking.{alike_start, alike_all, alike_not, alike_next}
use Rattle.plain.proofs.alike.Goals as goal

pub loop-init : goal.loop-init
loop-init c = alike_start _ _ _

pub returns-in_default : goal.returns-in_default
returns-in_default c = alike_not c.loop.invariant c.loop-test.true c.in_default.ensures

pub loop-preserved : goal.loop-preserved
loop-preserved c = alike_next c.loop.invariant c.loop-test.true c.in-Some.ensures

pub returns : goal.returns
returns c = alike_all c.loop.invariant c.loop-test.false
