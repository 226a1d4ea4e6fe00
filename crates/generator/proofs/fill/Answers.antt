use Rattle.testload.specs.Words.{words}
use Rattle.std.proofs.Common.{◌<◌, length, refl, arith}
use Rattle.generator.proofs.Filling.{filled}
use Rattle.generator.proofs.fill.Goals as goal

pub loop-i-init : goal.loop-i-init
unfolding words
loop-i-init c = refl

pub loop-i-preserved : goal.loop-i-preserved
loop-i-preserved c = let h : c.loop-i.i < length c.loop-i.w = omega arith in rw c.next.ensures (filled c.args.seed c.loop-i.i c.loop-i.w h c.loop-i.invariant)
