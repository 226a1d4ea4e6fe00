use Rattle.writer.proofs.Texting.{fill_start, fill_next, text_done, no_room}
use Rattle.writer.proofs.text.Goals as goal

pub returns-then-branch-s : goal.returns-then-branch-s
returns-then-branch-s c = let f = c.in_ok-checked_sub.ensures in no_room f.0 (rw f.1 at c.if-branch-s.true)

pub loop-b-init : goal.loop-b-init
loop-b-init c = let f = c.in_ok-checked_sub.ensures in fill_start _ _ _ f.0 (rw f.1 at c.if-branch-s.false)

pub loop-b-preserved : goal.loop-b-preserved
loop-b-preserved c = fill_next c.loop-b.invariant c.loop-b-test.true c.hex_digit.ensures c.hex_digit-in-loop-b.ensures

pub returns : goal.returns
returns c = text_done c.loop-b.invariant c.loop-b-test.false
