-- The key's field is looked up as in a record; a fact of an absent predicate is an error without a diagnostic.
use Rattle.steps.proofs.Accessing.{key_error, key_unknown, key_record, key_found, key_absent, key_other}
use Rattle.steps.proofs.key_of.Goals as goal

pub returns-in-Error-clause-is : goal.returns-in-Error-clause-is
returns-in-Error-clause-is c = key_error _ _ c.in-Error.is

pub returns-in-Some-clause-is : goal.returns-in-Some-clause-is
returns-in-Some-clause-is c = key_found _ _ c.in-Fact.is (rw c.view.ensures at c.key_ty.ensures) _ c.in-Some.is c.field_at.ensures.is

pub returns-in-None-clause-is : goal.returns-in-None-clause-is
returns-in-None-clause-is c = key_absent _ _ c.in-Fact.is (rw c.view.ensures at c.key_ty.ensures) c.in-None.is

pub returns-in-Record-clause-is : goal.returns-in-Record-clause-is
returns-in-Record-clause-is c = key_record _ _ _ c.in-Record.is c.field_at-in-Record.ensures.is

pub returns-in-Var-clause-is : goal.returns-in-Var-clause-is
returns-in-Var-clause-is c = key_unknown _ _ _ c.in-Var.is c.reject_ty.ensures.is

pub returns-in_default-clause-is : goal.returns-in_default-clause-is
returns-in_default-clause-is c = key_other _ _ c.in_default.in_default-own.keys5 c.reject_ty-in_default.ensures.is
