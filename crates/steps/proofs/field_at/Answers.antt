-- The field found is the definition's; where there is none, that is reported.
use Rattle.steps.proofs.Accessing.{field_at_found, field_at_none}
use Rattle.steps.proofs.field_at.Goals as goal

pub returns-in-Some-clause-is : goal.returns-in-Some-clause-is
returns-in-Some-clause-is c = field_at_found (rw c.view.ensures at c.field_of.ensures) _ c.in-Some.is

pub returns-in-None-clause-is : goal.returns-in-None-clause-is
returns-in-None-clause-is c = field_at_none (rw c.view.ensures at c.field_of.ensures) c.in-None.is c.reject_ty.ensures.is
