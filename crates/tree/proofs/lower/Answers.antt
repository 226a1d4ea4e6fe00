-- `tree::lower` meets its contract by the test that it makes.
use mathlib.Core.Path.{sym}
use Rattle.tree.proofs.Lowering.{lower_stays, lower_zero}
use Rattle.tree.proofs.lower.Goals as goal

pub returns-then-x-below : goal.returns-then-x-below
returns-then-x-below c = sym (lower_stays _ _ c.if-x-below.true)

pub returns-else-x-below : goal.returns-else-x-below
returns-else-x-below c = sym (lower_zero _ _ c.if-x-below.false)
