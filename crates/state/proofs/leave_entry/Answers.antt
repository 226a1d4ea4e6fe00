-- The test is the one of `leave_entry_w`.
use Rattle.state.specs.Words.{push_w}
use Rattle.state.proofs.Entries.{leave_new, leave_used}
use Rattle.state.proofs.leave_entry.Goals as goal

pub returns-then-not-is_marked : goal.returns-then-not-is_marked
unfolding push_w
returns-then-not-is_marked c =
    leave_new _ _ (rw c.unknown_of.ensures at c.is_marked.ensures) c.if-not-is_marked.true (rw c.maker_of-node.ensures at c.push.ensures)

pub returns-else-not-is_marked : goal.returns-else-not-is_marked
returns-else-not-is_marked c = leave_used _ _ (rw c.unknown_of.ensures at c.is_marked.ensures) c.if-not-is_marked.false
