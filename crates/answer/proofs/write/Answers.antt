-- The query's other lines, then those of the entries that left unmarked, then the line of its visits.
use Rattle.answer.proofs.Answering.{answer_visits, answer_unused_none, answer_none}
use Rattle.answer.proofs.write.Goals as goal

pub returns-in_err-at : goal.returns-in_err-at
returns-in_err-at c = rw c.from_residual.ensures (answer_none c.lines.ensures c.args.visits c.in_err-at.was)

pub returns-in_err-at-2 : goal.returns-in_err-at-2
returns-in_err-at-2 c =
    rw c.from_residual-in_err-at-2.ensures (answer_unused_none c.lines.ensures c.args.visits c.in_ok-at.was c.unused_lines.ensures c.in_err-at-2.was)

pub returns : goal.returns
returns c = answer_visits c.lines.ensures c.args.visits c.in_ok-at.was c.unused_lines.ensures c.in_ok-at-2.was c.visits_line.ensures
