-- A byte, or the number of a node before this one.
use Rattle.std.proofs.Common.{arith}
use Rattle.generator.specs.Promises.{cell_bytes}
use Rattle.generator.proofs.Rows.{plain}
use Rattle.generator.proofs.cell.Goals as goal

pub returns-in-254 : goal.returns-in-254
unfolding cell_bytes
returns-in-254 c = rw (c.in-254.is, ← c.saturating_sub.ensures) c.half.ensures

pub returns-in-253 : goal.returns-in-253
unfolding cell_bytes
returns-in-253 c = rw (c.in-253.is, ← c.saturating_sub-in-253.ensures) c.half-in-253.ensures

pub returns-in_default : goal.returns-in_default
returns-in_default c = rw (← (plain c.args.i c.args.x (λ e. omega arith) (λ e. omega arith))) c.byte.ensures
