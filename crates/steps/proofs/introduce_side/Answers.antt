-- Only a variable is introduced.
use borrow.Enum.Refused.{opened}
use Rattle.steps.proofs.Unvisited.{side_variable, side_other}
use Rattle.steps.proofs.introduce_side.Goals as goal

pub returns-in-Var-clause-is : goal.returns-in-Var-clause-is
returns-in-Var-clause-is c = record { is = λ ou. side_variable c.node.ensures c.in-Var.is c.introduce.ensures.is }

pub returns-in_default-clause-is : goal.returns-in_default-clause-is
returns-in_default-clause-is c = record { is = λ ou. side_other c.node.ensures ((opened c.in_default.in_default-own.keys2)) }
