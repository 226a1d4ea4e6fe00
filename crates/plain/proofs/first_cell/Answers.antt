use Rattle.std.proofs.Common.{arith}
use Rattle.plain.proofs.Cells.{no_cell_short, no_cell, no_cell_label, key_cell, label_cell}
use Rattle.plain.proofs.first_cell.Goals as goal

pub returns-in_default : goal.returns-in_default
returns-in_default c = no_cell_short _ c.in_default.len_below

pub returns-in-9 : goal.returns-in-9
returns-in-9 c = key_cell _ c.in-9.is

pub returns-in_default-ws : goal.returns-in_default-ws
returns-in_default-ws c = no_cell_label _ c.in-10.is c.in_default-ws.len_below

pub returns-in-len2-up-ws : goal.returns-in-len2-up-ws
returns-in-len2-up-ws c = label_cell _ c.in-10.is

pub returns-in_default-tag : goal.returns-in_default-tag
returns-in_default-tag c = no_cell _ (λ e. omega arith) (λ e. omega arith)
