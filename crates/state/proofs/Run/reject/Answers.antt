-- The lines, the count, and what it means for the run.
use Rattle.state.proofs.Lending.{lent_words, lent_then, counted_within}
use Rattle.state.proofs.Run.reject.Goals as goal

pub returns-clause-is : goal.returns-clause-is
returns-clause-is c = record {
  between = _;
  tells = rw c.halt.ensures.out c.tell.ensures.is;
  halts = rw (c.count.ensures, c.tell.ensures.purse) at c.halt.ensures.is;
}

pub returns-clause-lent : goal.returns-clause-lent
returns-clause-lent c = lent_then c.tell.ensures.lent (lent_then (lent_words c.count.ensures (counted_within _)) c.halt.ensures.lent)
