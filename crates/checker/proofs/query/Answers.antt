-- `checker::query` meets its contract: the statements from where a run begins, then the head, then every entry leaves.
use borrow.Author.Rules.{rules}
use native.Mathlib.Omega.{arith}
use Rattle.cells.proofs.Frame.{keeps_trans}
use Rattle.state.proofs.Lending.{leave_within}
use Rattle.checker.proofs.Callees.{leaves_by}
use Rattle.state.proofs.Lefts.{took, took_none, went_on, went_none}
use Rattle.checker.proofs.Querying.{queried_as, queried_on, queried_infer_out, queried_head_out, queried_out, pays_as, notes_none, notes_some}
use Rattle.checker.proofs.query.Goals as goal

pub returns-clause-is : goal.returns-clause-is
returns-clause-is c = rw c.left.ensures (queried_as (queried_on _ c.begin.ensures c.query_head-head.ensures c.query_body-body.ensures (rw c.refill.ensures.left at c.stmts.ensures.is) (went_on c.in_ok-stmts.was)
    (rw c.stmts.ensures.lent.0 at c.check_head.ensures.is) (went_on c.in_ok-check_head.was)
    (rw (c.check_head.ensures.lent.0, c.stmts.ensures.lent.0) at c.infer.ensures.is) (took c.in_ok-infer.was) (leaves_by c.leave.ensures)
    (keeps_trans c.stmts.ensures.lent.6 (keeps_trans c.check_head.ensures.lent.6 (keeps_trans c.infer.ensures.lent.6 (rw c.leave.ensures (leave_within _ _)))))
    (search rules) (omega (arith, c.stmts.ensures.lent.5, c.check_head.ensures.lent.5, c.infer.ensures.lent.5, c.refill.ensures.left))) (search rules) (search rules))

pub returns-in_err-infer-clause-is : goal.returns-in_err-infer-clause-is
returns-in_err-infer-clause-is c = rw c.from_residual-in_err-infer.ensures
    (queried_as (queried_infer_out _ c.begin.ensures c.query_head-head.ensures c.query_body-body.ensures (rw c.refill.ensures.left at c.stmts.ensures.is) (went_on c.in_ok-stmts.was)
    (rw c.stmts.ensures.lent.0 at c.check_head.ensures.is) (went_on c.in_ok-check_head.was)
    (rw (c.check_head.ensures.lent.0, c.stmts.ensures.lent.0) at c.infer.ensures.is) (took_none _ c.in_err-infer.was)
    (keeps_trans c.stmts.ensures.lent.6 (keeps_trans c.check_head.ensures.lent.6 c.infer.ensures.lent.6)) (search rules)) (search rules) (search rules))

pub returns-in_err-check_head-clause-is : goal.returns-in_err-check_head-clause-is
returns-in_err-check_head-clause-is c = rw c.from_residual-in_err-check_head.ensures
    (queried_as (queried_head_out _ c.begin.ensures c.query_head-head.ensures c.query_body-body.ensures (rw c.refill.ensures.left at c.stmts.ensures.is) (went_on c.in_ok-stmts.was)
    (rw c.stmts.ensures.lent.0 at c.check_head.ensures.is) (went_none _ c.in_err-check_head.was)
    (keeps_trans c.stmts.ensures.lent.6 c.check_head.ensures.lent.6) (search rules)) (search rules) (search rules))

pub returns-in_err-stmts-clause-is : goal.returns-in_err-stmts-clause-is
returns-in_err-stmts-clause-is c = rw c.from_residual.ensures
    (queried_as (queried_out _ c.begin.ensures c.query_head-head.ensures c.query_body-body.ensures (rw c.refill.ensures.left at c.stmts.ensures.is)
    (went_none _ c.in_err-stmts.was) c.stmts.ensures.lent.6 (search rules)) (search rules) (search rules))

-- What is left falls, and what was given out stays.
pub returns-clause-pays : goal.returns-clause-pays
returns-clause-pays c = pays_as _ _ {p' = c.infer.new.run.purse.now} (omega (
  arith,
  c.refill.ensures.left,
  c.refill.ensures.spent,
  c.stmts.ensures.lent.5,
  c.stmts.ensures.lent.8,
  c.check_head.ensures.lent.5,
  c.check_head.ensures.lent.8,
  c.infer.ensures.lent.5,
  c.infer.ensures.lent.8,
)) (search rules)

pub returns-in_err-infer-clause-pays : goal.returns-in_err-infer-clause-pays
returns-in_err-infer-clause-pays c = pays_as _ _ {p' = c.infer.new.run.purse.now} (omega (
  arith,
  c.refill.ensures.left,
  c.refill.ensures.spent,
  c.stmts.ensures.lent.5,
  c.stmts.ensures.lent.8,
  c.check_head.ensures.lent.5,
  c.check_head.ensures.lent.8,
  c.infer.ensures.lent.5,
  c.infer.ensures.lent.8,
)) (search rules)

pub returns-in_err-check_head-clause-pays : goal.returns-in_err-check_head-clause-pays
returns-in_err-check_head-clause-pays c = pays_as _ _ {p' = c.check_head.new.run.purse.now} (omega (
  arith,
  c.refill.ensures.left,
  c.refill.ensures.spent,
  c.stmts.ensures.lent.5,
  c.stmts.ensures.lent.8,
  c.check_head.ensures.lent.5,
  c.check_head.ensures.lent.8,
)) (search rules)

pub returns-in_err-stmts-clause-pays : goal.returns-in_err-stmts-clause-pays
returns-in_err-stmts-clause-pays c = pays_as _ _ {p' = c.stmts.new.run.purse.now} (omega (arith, c.refill.ensures.left, c.refill.ensures.spent, c.stmts.ensures.lent.5, c.stmts.ensures.lent.8)) (search rules)

-- Whatever ended the run noted what was left.
pub returns-in_err-infer-clause-noted : goal.returns-in_err-infer-clause-noted
returns-in_err-infer-clause-noted c = rw c.from_residual-in_err-infer.ensures (notes_none {p = c.infer.new.run.purse.now} (c.infer.ensures.ended c.in_err-infer.was) (search rules) (search rules))

pub returns-in_err-check_head-clause-noted : goal.returns-in_err-check_head-clause-noted
returns-in_err-check_head-clause-noted c = rw c.from_residual-in_err-check_head.ensures (notes_none {p = c.check_head.new.run.purse.now} (c.check_head.ensures.ended c.in_err-check_head.was) (search rules) (search rules))

pub returns-in_err-stmts-clause-noted : goal.returns-in_err-stmts-clause-noted
returns-in_err-stmts-clause-noted c = rw c.from_residual.ensures (notes_none {p = c.stmts.new.run.purse.now} (c.stmts.ensures.ended c.in_err-stmts.was) (search rules) (search rules))

pub returns-clause-noted : goal.returns-clause-noted
returns-clause-noted c = notes_some {p = c.infer.new.run.purse.now} c.left.ensures (search rules)
