-- `tree::field_at` meets its contract: the calls give `field_w`'s parts.
use Rattle.tree.specs.Nodes.{field_w}
use Rattle.tree.proofs.field_at.Goals as goal

pub returns : goal.returns
unfolding field_w
returns c = cc (c.wide.ensures.0, c.hex_half.ensures.0, c.hex_half-2.ensures.0, c.lower.ensures)
