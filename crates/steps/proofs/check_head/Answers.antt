-- Only a wildcard is rejected.
use borrow.Enum.Refused.{opened}
use Rattle.steps.proofs.Unvisited.{head_wildcard, head_other}
use Rattle.steps.proofs.check_head.Goals as goal

pub returns-in-Wildcard-clause-is : goal.returns-in-Wildcard-clause-is
returns-in-Wildcard-clause-is c = head_wildcard c.node.ensures c.in-Wildcard.is c.reject.ensures.is

pub returns-in_default-clause-is : goal.returns-in_default-clause-is
returns-in_default-clause-is c = head_other c.node.ensures ((opened c.in_default.in_default-own.keys2))
