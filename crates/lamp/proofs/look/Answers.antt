-- `lamp::look` meets its contract: the reading, and then the queries of what was read.
use borrow.Author.Rules.{rules}
use native.Mathlib.Omega.{arith}
use Rattle.driver.proofs.Deciding.{read_small}
use Rattle.lamp.proofs.Looking.{not_read, was_read, read_long}
use Rattle.lamp.proofs.look.Goals as goal

pub ask-requires : goal.ask-requires
ask-requires c = read_small _ _ _ _ c.read_file-r.ensures c.in-Ok.is

pub returns-in-Err-clause-is : goal.returns-in-Err-clause-is
returns-in-Err-clause-is c = not_read c.read_file-r.ensures c.in-Err.is

pub returns-in-Ok-clause-is : goal.returns-in-Ok-clause-is
returns-in-Ok-clause-is c = was_read c.read_file-r.ensures c.in-Ok.is c.ask.ensures.is (search rules)

pub returns-in-Ok-clause-spent : goal.returns-in-Ok-clause-spent
returns-in-Ok-clause-spent c = c.ask.ensures.spent (omega (arith, read_long _ _ _ _ c.read_file-r.ensures c.in-Ok.is))
