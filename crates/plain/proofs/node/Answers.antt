use Rattle.std.proofs.Common.{arith}
use Rattle.plain.proofs.Cells.{no_node_short, no_node}
use Rattle.plain.proofs.node.Goals as goal

pub returns-in_default : goal.returns-in_default
returns-in_default c = no_node_short _ c.in_default.len_below

pub returns-in_default-kind : goal.returns-in_default-kind
returns-in_default-kind c = no_node _ (λ e. omega arith) (λ e. omega arith)
