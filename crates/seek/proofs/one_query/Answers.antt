-- By the end of the run, with the word of its entries.
use Rattle.seek.proofs.Running.{turned_to, query_on, query_out, query_spends}
use Rattle.seek.proofs.one_query.Goals as goal

pub returns-in_err-ok_or-clause-is : goal.returns-in_err-ok_or-clause-is
returns-in_err-ok_or-clause-is c =
    let e = c.in_err-ok_or.ensures in
    rw (turned_to _ _ _ c.from_residual.ensures.1 e.ok_part e.value) (query_out c.load-next.ensures c.query.ensures.is e.ok_part)

pub returns-in_err-ok_or-clause-spent : goal.returns-in_err-ok_or-clause-spent
returns-in_err-ok_or-clause-spent c = query_spends c.load-next.ensures c.query.ensures.is c.query.ensures.pays c.query.ensures.noted

pub returns-clause-is : goal.returns-clause-is
returns-clause-is c = query_on c.load-next.ensures c.query.ensures.is c.in_ok-ok_or.ensures.ok_part c.word.ensures

pub returns-clause-spent : goal.returns-clause-spent
returns-clause-spent c = query_spends c.load-next.ensures c.query.ensures.is c.query.ensures.pays c.query.ensures.noted
