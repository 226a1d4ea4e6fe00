use Rattle.std.proofs.Common.{refl}
use Rattle.plain.proofs.Pairing.{pair_start, pair_done, pair_cut, pair_broken, pair_absent, pair_no_type, pair_full, pair_over, pair_next}
use Rattle.plain.proofs.pair_up.Goals as goal

pub loop-init : goal.loop-init
loop-init c = pair_start _ _ _ _ _ c.requires

pub returns-in_err-cell : goal.returns-in_err-cell
returns-in_err-cell c = rw c.from_residual.ensures (pair_cut c.loop.invariant c.loop-test.true c.in_err-cell.ensures)

pub returns-in_err-a : goal.returns-in_err-a
returns-in_err-a c = rw c.from_residual-in_err-a.ensures (pair_broken c.loop.invariant c.loop-test.true c.in_ok-cell.ensures c.in_err-a.ensures)

pub returns-in_err-partner : goal.returns-in_err-partner
returns-in_err-partner c = rw c.from_residual-in_err-partner.ensures
    (pair_absent c.loop.invariant c.loop-test.true c.in_ok-cell.ensures c.in_err-partner.ensures)

pub returns-in_err-b : goal.returns-in_err-b
returns-in_err-b c = rw c.from_residual-in_err-b.ensures
    (pair_no_type c.loop.invariant c.loop-test.true c.in_ok-cell.ensures c.in_ok-partner.ensures c.in_err-b.ensures)

pub returns-in_err-to : goal.returns-in_err-to
returns-in_err-to c = rw c.from_residual-in_err-to.ensures
    (pair_full c.loop.invariant c.loop-test.true c.in_ok-cell.ensures c.in_ok-partner.ensures c.in_ok-a.ensures c.in_ok-b.ensures c.in_err-to.ensures refl)

pub returns-in_err-to-2 : goal.returns-in_err-to-2
returns-in_err-to-2 c = rw c.from_residual-in_err-to-2.ensures
    (pair_over c.loop.invariant c.loop-test.true c.in_ok-cell.ensures c.in_ok-partner.ensures c.in_ok-a.ensures c.in_ok-b.ensures c.in_ok-to.ensures refl
    c.in_err-to-2.ensures refl)

pub loop-preserved : goal.loop-preserved
loop-preserved c =
    pair_next c.loop.invariant c.loop-test.true c.in_ok-cell.ensures c.in_ok-partner.ensures c.in_ok-a.ensures c.in_ok-b.ensures c.in_ok-to.ensures refl
    c.in_ok-to-2.ensures refl

pub returns : goal.returns
returns c = pair_done c.loop.invariant c.loop-test.false
