use Rattle.plain.proofs.Aliking.{no_cell, no_partner, labels_differ, labels_agree}
use Rattle.plain.proofs.past_alike.Goals as goal

pub returns-in_err-cell : goal.returns-in_err-cell
returns-in_err-cell c = rw c.from_residual.ensures (no_cell c.in_err-cell.ensures)

pub returns-in_err-partner : goal.returns-in_err-partner
returns-in_err-partner c = rw c.from_residual-in_err-partner.ensures (no_partner c.in_ok-cell.ensures c.in_err-partner.ensures)

pub returns-then-partner-cell : goal.returns-then-partner-cell
returns-then-partner-cell c = labels_differ c.in_ok-cell.ensures c.in_ok-partner.ensures c.if-partner-cell.true

pub returns : goal.returns
returns c = labels_agree c.in_ok-cell.ensures c.in_ok-partner.ensures c.if-partner-cell.false _ c.behind.ensures
