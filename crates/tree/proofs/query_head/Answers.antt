-- `tree::query_head` meets its contract: the number after the line's first byte.
use Rattle.tree.specs.Nodes.{head_w}
use Rattle.tree.proofs.query_head.Goals as goal

pub returns : goal.returns
unfolding head_w
returns c = cc (c.wide.ensures.0, c.line_place.ensures, c.word.ensures, c.hex_half.ensures.0)
