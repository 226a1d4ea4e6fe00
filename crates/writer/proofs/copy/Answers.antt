use Rattle.std.proofs.Common.{arith}
use Rattle.writer.proofs.Writing.{copy_start, copy_next, copy_done}
use Rattle.writer.proofs.copy.Goals as goal

pub loop-i-init : goal.loop-i-init
loop-i-init g c = let f = c.in_ok-checked_sub.ensures in copy_start _ _ _ f.0 (omega (arith, f.1, c.if-branch-s.false))

pub loop-i-preserved : goal.loop-i-preserved
loop-i-preserved g c = copy_next c.loop-i.invariant c.loop-i-test.true c.index-s-i.is

pub returns : goal.returns
returns g c = copy_done c.loop-i.invariant c.loop-i-test.false
