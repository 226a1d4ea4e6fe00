-- The occurs check decides.
use Rattle.std.proofs.Common.{arith, sym, subst}
use Rattle.cells.specs.Promises.{BindsVar}
use Rattle.cells.proofs.Heads.{bind_occurs, bind_sets, bind_spent}
use Rattle.unify.proofs.bind_var.Goals as goal

pub returns-in_default : goal.returns-in_default
returns-in_default c = rw c.fail.ensures (bind_spent c.occurs.ensures c.in_default.is)

pub returns-then-found : goal.returns-then-found
returns-then-found c = subst (BindsVar _ _ _ _ _) (sym c.fail-then-found.ensures) (bind_occurs c.occurs.ensures c.in-Some.l (grind arith))

pub returns : goal.returns
returns c = bind_sets c.occurs.ensures c.in-Some.l (grind arith) c.set_var.new.w c.set_var.ensures
