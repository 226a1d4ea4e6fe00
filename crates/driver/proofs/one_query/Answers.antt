-- `driver::one_query` meets its contract: the query is loaded, run and written, each by the contract of its callee.
use borrow.Author.Rules.{rules}
use Rattle.driver.proofs.Turning.{turn_out, turn_on, lines_after}
use Rattle.driver.proofs.one_query.Goals as goal

pub returns-clause-is : goal.returns-clause-is
returns-clause-is c =
    let h = c.heading-head.ensures in
    turn_on c.load-next.ensures c.answer_query.ensures.is _ _ c.in_ok-lines.was h.tells _ _ _ _
    (λ text g. lines_after h.follows c.place-from.ensures g c.and.ensures c.map.ensures.cases (λ n v p. search rules))

pub returns-clause-spent : goal.returns-clause-spent
returns-clause-spent c = rw c.in_ok-lines.was at c.answer_query.ensures.spent

pub returns-in_err-lines-clause-is : goal.returns-in_err-lines-clause-is
returns-in_err-lines-clause-is c =
    rw c.from_residual.ensures (turn_out c.load-next.ensures c.answer_query.ensures.is _ _ _ _ c.in_err-lines.was)

pub returns-in_err-lines-clause-spent : goal.returns-in_err-lines-clause-spent
returns-in_err-lines-clause-spent c = rw c.from_residual.ensures (rw c.in_err-lines.was at c.answer_query.ensures.spent)
