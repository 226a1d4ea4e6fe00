-- The definition's question for an order, and where there is none one diagnostic.
use mathlib.Core.Path.{refl}
use Rattle.steps.proofs.Uniting.{order_yes, order_no, order_spent}
use Rattle.steps.proofs.compare_order.Goals as goal

pub returns-in-Some-true-clause-is : goal.returns-in-Some-true-clause-is
returns-in-Some-true-clause-is c = order_yes _ (rw (c.in-Some-true.is, c.in-Some-true.field-0-test) at c.orderable.ensures.is.0) refl

pub returns-in-Some-false-clause-is : goal.returns-in-Some-false-clause-is
returns-in-Some-false-clause-is c =
    order_no _ (rw (c.in-Some-false.is, c.in-Some-false.field-0-test) at c.orderable.ensures.is.0) refl c.reject.ensures.is

pub returns-in-None-clause-is : goal.returns-in-None-clause-is
returns-in-None-clause-is c = rw c.put.ensures (order_spent _ (rw c.in-None.is at c.orderable.ensures.is.0) refl)
