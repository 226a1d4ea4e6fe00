use Rattle.generator.proofs.Rows.{left_start, left_next, left_full, left_last, cells_start, cells_next, cells_end}
use Rattle.generator.proofs.row.Goals as goal

pub loop-x-init : goal.loop-x-init
loop-x-init c = left_start _ _ _ _ (cells_start c.args.i _)

pub returns-in_err-at : goal.returns-in_err-at
returns-in_err-at c =
    rw c.from_residual.ensures (left_full c.loop-x.invariant _ _ (cells_next c.args.i _ c.loop-x.x-index c.loop-x-test.true) c.cell.ensures c.in_err-at.was)

pub loop-x-preserved : goal.loop-x-preserved
loop-x-preserved c = left_next c.loop-x.invariant _ _ (cells_next c.args.i _ c.loop-x.x-index c.loop-x-test.true) c.cell.ensures c.in_ok-at.was

pub returns : goal.returns
returns c = left_last c.loop-x.invariant _ (cells_end c.args.i _ c.loop-x.x-index c.loop-x-test.false) c.close.ensures
