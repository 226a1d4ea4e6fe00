use Rattle.frames.proofs.Passing.{seeking_on, seeking_on_16, passes_here, passes_over}
use Rattle.frames.proofs.lines.pass.Goals as goal

pub loop-i-preserved : goal.loop-i-preserved
loop-i-preserved c = seeking_on_16 c.loop-i.invariant (c.none_ends.ensures.0 c.if-none_ends.true)

pub returns-then-file-i-eq10 : goal.returns-then-file-i-eq10
returns-then-file-i-eq10 c = passes_here c.loop-i-2.invariant c.loop-i-2-test.true c.if-file-i-eq10.true

pub loop-i-2-preserved : goal.loop-i-2-preserved
loop-i-2-preserved c = seeking_on c.loop-i-2.invariant c.if-file-i-eq10.false

pub returns : goal.returns
returns c = passes_over c.loop-i-2.invariant c.loop-i-2-test.false
