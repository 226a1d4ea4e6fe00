-- What was found is marked, and its unknown comes back; else there is a new one, and an entry for it.
use Rattle.state.proofs.Entries.{introduce_known, introduce_new}
use Rattle.cells.proofs.Holding.{fresh_keeps}
use Rattle.state.proofs.Lending.{lent_words, lent_then, mark_within, push_env_within}
use Rattle.state.proofs.Run.introduce.Goals as goal

pub returns-in-Some-clause-is : goal.returns-in-Some-clause-is
returns-in-Some-clause-is c = rw c.unknown_of.ensures (introduce_known _ _ _ _ (rw c.view.ensures at c.lookup.ensures) _ c.in-Some.is c.mark.ensures)

pub returns-in-None-clause-is : goal.returns-in-None-clause-is
returns-in-None-clause-is c =
    introduce_new _ _ _ _ (rw c.view.ensures at c.lookup.ensures) c.in-None.is c.fresh_var_id-var.ensures.0 c.fresh_var_id-var.ensures.1 c.push_env.ensures

pub returns-in-Some-clause-lent : goal.returns-in-Some-clause-lent
returns-in-Some-clause-lent c = lent_words c.mark.ensures (mark_within _ _ _)

pub returns-in-None-clause-lent : goal.returns-in-None-clause-lent
returns-in-None-clause-lent c =
    lent_then (lent_words c.fresh_var_id-var.ensures.1 (fresh_keeps _)) (lent_words c.push_env.ensures (push_env_within _ _ _ _))
