-- The value that the predicate has, if no key field is called so; every other end is one diagnostic, or an error that
-- was reported before.
use borrow.Enum.Refused.{opened}
use Rattle.steps.proofs.Accessing.{value_error, value_unknown, value_shadowed_lem, value_found, value_absent, value_other}
use Rattle.steps.proofs.value_of.Goals as goal

pub returns-then-key_shadows_value-clause-is : goal.returns-then-key_shadows_value-clause-is
returns-then-key_shadows_value-clause-is c =
    value_shadowed_lem _ c.in-Fact.is (rw c.view.ensures at c.key_shadows_value.ensures) c.if-key_shadows_value.true c.reject_ty.ensures.is

pub returns-in-Error-clause-is : goal.returns-in-Error-clause-is
returns-in-Error-clause-is c = value_error _ c.in-Error.is

pub returns-in-Some-clause-is : goal.returns-in-Some-clause-is
returns-in-Some-clause-is c = value_found _ c.in-Fact.is (rw c.view.ensures at c.key_shadows_value.ensures) c.if-key_shadows_value.false
    (rw c.view-in-Fact.ensures at c.value_ty.ensures) _ c.in-Some.is

pub returns-in-None-clause-is : goal.returns-in-None-clause-is
returns-in-None-clause-is c = value_absent _ c.in-Fact.is (rw c.view.ensures at c.key_shadows_value.ensures) c.if-key_shadows_value.false
    (rw c.view-in-Fact.ensures at c.value_ty.ensures) c.in-None.is c.reject_ty-in-None.ensures.is

pub returns-in-Var-clause-is : goal.returns-in-Var-clause-is
returns-in-Var-clause-is c = value_unknown _ _ c.in-Var.is c.reject_ty-in-Var.ensures.is

pub returns-in_default-clause-is : goal.returns-in_default-clause-is
returns-in_default-clause-is c = value_other _ ((opened c.in_default.in_default-own.keys4)) c.reject_ty-in_default.ensures.is
