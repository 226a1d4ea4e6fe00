-- `tree::line_start` meets its contract: the word's upper bits.
use native.Mathlib.Omega.{arith}
use Rattle.tree.specs.Nodes.{line_start_w}
use Rattle.tree.proofs.line_start.Goals as goal

pub returns : goal.returns
unfolding line_start_w
returns c = let x = rw c.wide.ensures.0 at c.word.ensures in
    omega (arith, c.wide-2.ensures.0, c.line_place.ensures, c.node_line.ensures, x)
