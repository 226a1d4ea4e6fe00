-- `tree::item_at` meets its contract: the calls give `item_w`'s parts.
use Rattle.tree.specs.Nodes.{item_w}
use Rattle.tree.proofs.item_at.Goals as goal

pub returns : goal.returns
unfolding item_w
returns c = cc (c.wide.ensures.0, c.hex_half.ensures.0, c.lower.ensures)
