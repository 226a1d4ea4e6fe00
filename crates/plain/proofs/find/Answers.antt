use Rattle.plain.proofs.Finding.{find_start, find_none, find_cut, find_broken, find_here, find_next}
use Rattle.plain.proofs.find.Goals as goal

pub loop-init : goal.loop-init
loop-init c = find_start _ _ _

pub returns-in_err-cell : goal.returns-in_err-cell
returns-in_err-cell c = rw c.from_residual.ensures (find_cut c.loop.invariant c.loop-test.true c.in_err-cell.ensures)

pub returns-then-cell-key : goal.returns-then-cell-key
returns-then-cell-key c = find_here c.loop.invariant c.loop-test.true c.in_ok-cell.ensures c.if-cell-key.true

pub returns-in_err-rest : goal.returns-in_err-rest
returns-in_err-rest c =
    rw c.from_residual-in_err-rest.ensures (find_broken c.loop.invariant c.loop-test.true c.in_ok-cell.ensures c.in_err-rest.ensures)

pub loop-preserved : goal.loop-preserved
loop-preserved c = find_next c.loop.invariant c.loop-test.true c.in_ok-cell.ensures c.if-cell-key.false c.in_ok-rest.ensures

pub returns : goal.returns
returns c = find_none c.loop.invariant c.loop-test.false
