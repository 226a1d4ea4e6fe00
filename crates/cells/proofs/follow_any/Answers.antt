use Rattle.std.proofs.Common.{arith, sym, ◌∙◌}
use Rattle.cells.proofs.Follow.{follow_start, ends_shape, ends_free, follow_next, ends_last}
use Rattle.cells.proofs.follow_any.Goals as goal

pub loop-init : goal.loop-init
loop-init c = follow_start _ _

pub returns-in_default : goal.returns-in_default
returns-in_default c = ends_shape c.loop.invariant c.in_default.not-Var

pub returns-in_default-var_ty : goal.returns-in_default-var_ty
returns-in_default-var_ty c = ends_free c.loop.invariant c.in-Var.x c.in-Var.is (omega arith) (sym c.var_ty.ensures ∙ c.in_default-var_ty.is)

pub loop-preserved : goal.loop-preserved
loop-preserved c = follow_next c.loop.invariant c.in-Var.x c.in-Var.is (omega arith) c.in-Some.u (sym c.var_ty.ensures ∙ c.in-Some.is)

pub returns : goal.returns
returns c = ends_last c.loop.invariant (omega arith)
