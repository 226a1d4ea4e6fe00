-- An alternative found is the definition's; every other end is one diagnostic, or an error that was reported before.
use borrow.Enum.Refused.{opened}
use Rattle.steps.proofs.Accessing.{select_error, select_unknown, select_found, select_none, select_other}
use Rattle.steps.proofs.select_of.Goals as goal

pub returns-in-Error-clause-is : goal.returns-in-Error-clause-is
returns-in-Error-clause-is c = select_error _ _ c.in-Error.is

pub returns-in-Some-clause-is : goal.returns-in-Some-clause-is
returns-in-Some-clause-is c = select_found _ _ (rw c.view.ensures at c.find_name.ensures) c.in-Union.is _ c.in-Some.is

pub returns-in-None-clause-is : goal.returns-in-None-clause-is
returns-in-None-clause-is c = select_none _ _ (rw c.view.ensures at c.find_name.ensures) c.in-Union.is c.in-None.is c.reject_ty.ensures.is

pub returns-in-Var-clause-is : goal.returns-in-Var-clause-is
returns-in-Var-clause-is c = select_unknown _ _ _ c.in-Var.is c.reject_ty-in-Var.ensures.is

pub returns-in_default-clause-is : goal.returns-in_default-clause-is
returns-in_default-clause-is c = select_other _ _ ((opened c.in_default.in_default-own.keys4)) c.reject_ty-in_default.ensures.is
