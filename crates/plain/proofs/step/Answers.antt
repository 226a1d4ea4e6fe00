use Rattle.std.proofs.Common.{sym}
use borrow.Author.Tests.{eqb-true, eqb-false}
use Rattle.plain.proofs.Stepping.{step_done, step_no_left, step_no_right, step_left, step_right, step_apart}
use Rattle.plain.proofs.step.Goals as goal

pub returns-then-is_empty : goal.returns-then-is_empty
returns-then-is_empty c = step_done _ (eqb-true _ _ (sym c.if-is_empty.ensures))

pub returns-in_default : goal.returns-in_default
returns-in_default c = step_no_left _ (eqb-false _ _ (sym c.if-is_empty.ensures)) c.in_default.ensures

pub returns-in_default-first_type : goal.returns-in_default-first_type
returns-in_default-first_type c =
    step_no_right _ (eqb-false _ _ (sym c.if-is_empty.ensures)) c.in-Some.ensures c.in_default-first_type.ensures

pub returns-in-Some-unknown : goal.returns-in-Some-unknown
returns-in-Some-unknown c = step_left _ (eqb-false _ _ (sym c.if-is_empty.ensures)) c.in-Some.ensures c.in-Some-first_type.ensures
    c.in-Some-unknown.ensures c.bound.ensures

pub returns-in-Some-unknown-2 : goal.returns-in-Some-unknown-2
returns-in-Some-unknown-2 c = step_right _ (eqb-false _ _ (sym c.if-is_empty.ensures)) c.in-Some.ensures c.in-Some-first_type.ensures
    c.in_default-unknown.ensures c.in-Some-unknown-2.ensures c.bound-in-Some-unknown-2.ensures

pub returns-in_default-unknown-2 : goal.returns-in_default-unknown-2
returns-in_default-unknown-2 c = step_apart _ (eqb-false _ _ (sym c.if-is_empty.ensures)) c.in-Some.ensures c.in-Some-first_type.ensures
    c.in_default-unknown.ensures c.in_default-unknown-2.ensures c.apart.ensures
