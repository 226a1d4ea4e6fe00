use Rattle.steps.proofs.Looking.{key_there, key_past}
use Rattle.steps.proofs.key_ty.Goals as goal

pub returns-in_err-x : goal.returns-in_err-x
returns-in_err-x c = rw c.from_residual.ensures (key_past c.args.w.now c.args.p c.predicate.ensures c.in_err-x.was)

pub returns : goal.returns
returns c = rw (c.declared.ensures, c.predicate_key.ensures) (key_there c.args.w.now c.args.p c.predicate.ensures c.in_ok-x.was)
