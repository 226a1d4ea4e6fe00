-- `tree::hex_full` meets its contract: two halves, as `full_at` joins them.
use native.Mathlib.Omega.{arith}
use Rattle.tree.specs.Nodes.{full_at}
use Rattle.tree.proofs.hex_full.Goals as goal

pub overflow_mul-result : goal.overflow_mul-result
overflow_mul-result c = omega (arith, c.hex_half.ensures.1)

pub overflow_add-result : goal.overflow_add-result
overflow_add-result c = omega (arith, c.hex_half.ensures.1, c.hex_half-2.ensures.1)

pub returns : goal.returns
unfolding full_at
returns c = cc (c.hex_half.ensures.0, c.hex_half-2.ensures.0)
