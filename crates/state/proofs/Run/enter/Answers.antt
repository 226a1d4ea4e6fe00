use native.Mathlib.Omega.{arith}
use Rattle.cells.proofs.Frame.{keeps_wider}
use Rattle.state.proofs.Lining.{stops, stops_later, stops_not}
use Rattle.state.proofs.Arriving.{entered_keeps, sides_keeps, sides_noted}
use Rattle.state.proofs.Lending.{lent_words, lent_then}
use Rattle.state.proofs.Run.enter.Goals as goal

pub returns-in-TheEnd-clause-is : goal.returns-in-TheEnd-clause-is
returns-in-TheEnd-clause-is c = rw c.count_entry.ensures (stops_not (rw c.view.ensures at c.until_in-until.ensures) c.in-TheEnd.is)

pub returns-in-Entry-clause-is : goal.returns-in-Entry-clause-is
returns-in-Entry-clause-is c = rw c.count_entry.ensures
    (stops_later (rw c.view.ensures at c.until_in-until.ensures) c.in-Entry.is (rw (c.word-n.ensures, c.view-2.ensures) at c.if-n-stop.true))

pub returns-in-Entry-2-clause-is : goal.returns-in-Entry-2-clause-is
returns-in-Entry-2-clause-is c = rw (c.keep_sides.ensures, c.count_entry.ensures, c.left.ensures)
    (stops (rw c.view.ensures at c.until_in-until.ensures) c.in-Entry.is (rw (c.word-n.ensures, c.view-2.ensures) at c.if-n-stop.false))

pub returns-in-TheEnd-clause-lent : goal.returns-in-TheEnd-clause-lent
returns-in-TheEnd-clause-lent c = lent_words c.count_entry.ensures (keeps_wider (omega arith) (omega arith) (entered_keeps _))

pub returns-in-Entry-clause-lent : goal.returns-in-Entry-clause-lent
returns-in-Entry-clause-lent c = lent_words c.count_entry.ensures (keeps_wider (omega arith) (omega arith) (entered_keeps _))

pub returns-in-Entry-2-clause-lent : goal.returns-in-Entry-2-clause-lent
returns-in-Entry-2-clause-lent c = lent_then
    (lent_words c.count_entry.ensures (keeps_wider (omega arith) (omega arith) (entered_keeps _)))
    (lent_words c.keep_sides.ensures (keeps_wider (omega arith) (omega arith) (sides_keeps _ _ _ _)))

pub returns-in-Entry-2-clause-ended : goal.returns-in-Entry-2-clause-ended
returns-in-Entry-2-clause-ended c = rw (c.keep_sides.ensures, c.left.ensures) (λ n h. sides_noted _ _ _ _ h)
