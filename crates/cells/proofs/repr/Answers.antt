-- No unknown, a free one, or one bound to no unknown is told at once; else the chain is followed.
use Rattle.std.proofs.Common.{arith, rules, sym, ◌∙◌}
use Rattle.cells.proofs.Follow.{follow_start, ends_shape, ends_free, ends_bound}
use Rattle.cells.proofs.repr.Goals as goal

pub returns-in_default : goal.returns-in_default
returns-in_default c = ends_shape (follow_start _ _) c.in_default.not-Var

pub returns-in-None : goal.returns-in-None
returns-in-None c = ends_free (follow_start _ _) c.in-Var.x c.in-Var.is (omega arith) (sym c.var_ty.ensures ∙ c.in-None.is)

pub returns-in-Some : goal.returns-in-Some
returns-in-Some c = ends_bound (follow_start _ _) c.in-Var.x c.in-Var.is (omega arith) c.in-Some.u (sym c.var_ty.ensures ∙ c.in-Some.is) (λ x q. search rules)
