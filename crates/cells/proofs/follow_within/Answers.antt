use Rattle.std.proofs.Common.{arith, rules}
use Rattle.cells.proofs.Follow.{follow_start, ends_last, within_past, within_free, within_other, within_next}
use Rattle.cells.proofs.follow_within.Goals as goal

pub loop-init : goal.loop-init
loop-init c = follow_start _ _

pub returns-then-n-x : goal.returns-then-n-x
returns-then-n-x c = within_past c.loop.invariant (omega arith) (omega arith)

pub returns-in-0 : goal.returns-in-0
returns-in-0 c = within_free c.loop.invariant (omega arith) (omega arith) (rw c.wide.ensures.0 at c.inside.ensures) c.in-0.is

pub returns-in_default : goal.returns-in_default
returns-in_default c = within_other c.loop.invariant (omega arith) (omega arith) (rw c.wide.ensures.0 at c.inside.ensures)
    (rw c.wide.ensures.0 at c.inside-p.ensures) c.from_words.ensures (search rules) (search rules)

pub loop-preserved : goal.loop-preserved
loop-preserved c =
    within_next c.loop.invariant (omega arith) (omega arith) (rw c.wide.ensures.0 at c.inside.ensures) (rw c.wide.ensures.0 at c.inside-p.ensures) c.in-7.is

pub returns : goal.returns
returns c = ends_last c.loop.invariant (omega arith)
