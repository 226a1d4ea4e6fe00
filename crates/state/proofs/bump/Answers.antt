-- The test is the one of `bumped_w`.
use borrow.Author.Tests.{lt-ltb, le-ltb}
use Rattle.state.proofs.bump.Goals as goal

pub returns-then-n-limit : goal.returns-then-n-limit
returns-then-n-limit c = simp (c.put.ensures, c.word-n.ensures, lt-ltb _ _ (rw c.word-n.ensures at c.if-n-limit.true))

pub returns-else-n-limit : goal.returns-else-n-limit
returns-else-n-limit c = simp (le-ltb _ _ (rw c.word-n.ensures at c.if-n-limit.false))
