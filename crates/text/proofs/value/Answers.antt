use Rattle.std.proofs.Common.{arith}
use Rattle.text.proofs.Reading.{reading_none, reading_more}
use Rattle.text.proofs.value.Goals as goal

pub loop-b-init : goal.loop-b-init
loop-b-init c = rw c.from-value.ensures (reading_none _ _ c.ranges.head.fits)

pub loop-b-preserved : goal.loop-b-preserved
loop-b-preserved c = rw c.from.ensures (reading_more c.loop-b.invariant c.loop-b-test.true (record { low = omega arith; high = omega arith }))
