use mathlib.Core.Path.{refl}
use Rattle.convert.proofs.Walking.{converting_start, converting_bad, converting_done, converting_next, converting_full}
use Rattle.convert.proofs.convert.Goals as goal

pub loop-at-init : goal.loop-at-init
loop-at-init c = converting_start _ _ _

pub returns-in_err-n : goal.returns-in_err-n
returns-in_err-n c = rw c.from_residual.ensures (converting_bad _ c.loop-at.invariant (c.in_err-n.ensures.fails refl c.loop-at-test.true))

pub returns-in_err-to : goal.returns-in_err-to
returns-in_err-to c = rw c.from_residual-in_err-to.ensures (converting_full _ c.loop-at.invariant c.in_ok-n.ensures.holds c.in_err-to.ensures refl)

pub loop-at-preserved : goal.loop-at-preserved
loop-at-preserved c = converting_next _ c.loop-at.invariant c.in_ok-n.ensures.holds c.in_ok-to.ensures refl

pub returns : goal.returns
returns c = converting_done _ c.loop-at.invariant c.loop-at-test.false
