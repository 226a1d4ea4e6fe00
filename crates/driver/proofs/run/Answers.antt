-- `driver::run` meets its contract: the reading, and then the queries of what was read.
use borrow.Author.Rules.{rules}
use Rattle.driver.proofs.Deciding.{not_read, read_small, was_read}
use Rattle.driver.proofs.Spending.{unread_spends, read_spends}
use Rattle.driver.proofs.run.Goals as goal

pub all_queries-requires : goal.all_queries-requires
all_queries-requires c = read_small _ _ _ _ c.read_file-r.ensures c.in-Ok.is

pub returns-in-Err-clause-is : goal.returns-in-Err-clause-is
returns-in-Err-clause-is c = not_read _ _ _ _ _ _ _ c.read_file-r.ensures c.in-Err.is

pub returns-in-Err-clause-spent : goal.returns-in-Err-clause-spent
returns-in-Err-clause-spent c = unread_spends c.read_file-r.ensures c.in-Err.is _ _

pub returns-in-Ok-clause-is : goal.returns-in-Ok-clause-is
returns-in-Ok-clause-is c = was_read _ _ _ _ _ _ _ _ _ c.read_file-r.ensures c.in-Ok.is c.all_queries.ensures.is c.all_queries.auto.work (search rules)

pub returns-in-Ok-clause-spent : goal.returns-in-Ok-clause-spent
returns-in-Ok-clause-spent c = read_spends c.read_file-r.ensures c.in-Ok.is c.all_queries.ensures.spent
