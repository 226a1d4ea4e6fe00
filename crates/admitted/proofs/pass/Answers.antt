use Rattle.admitted.proofs.Passing.{passing_start, passing_marked, passing_on, passing_end}
use Rattle.admitted.proofs.pass.Goals as goal
use Rattle.admitted.proofs.pass.Goals.{then-mark, else-mark}

pub loop-i-init : goal.loop-i-init
loop-i-init c = passing_start _

pub loop-i-preserved : goal.loop-i-preserved
loop-i-preserved c = elim c.if-mark.branch [
  | then-mark w ↦ rw w.some-is (passing_marked c.loop-i.invariant c.loop-i-test.true c.mark.ensures w.if-mark.true)
  | else-mark w ↦ rw w.some-is (passing_on c.loop-i.invariant c.loop-i-test.true c.mark.ensures w.if-mark.false)
]

pub returns : goal.returns
returns c = passing_end c.loop-i.invariant c.loop-i-test.false
