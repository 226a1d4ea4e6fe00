-- By the binding: nothing, or the unknown and its type.
use Rattle.std.proofs.Common.{sym}
use Rattle.spelling.proofs.Tokening.{spells}
use Rattle.spelling.proofs.Staging.{binding_free, binding_then, binding_full}
use Rattle.spelling.proofs.binding.Goals as goal

pub returns-in-None : goal.returns-in-None
returns-in-None c = binding_free (sym c.in-None.ensures)

pub returns-in_err-at-in-Some : goal.returns-in_err-at-in-Some
returns-in_err-at-in-Some c = rw c.from_residual.ensures (binding_full (sym c.in-Some.ensures) c.two.ensures c.in_err-at-in-Some.was)

pub returns-in_ok-at-in-Some : goal.returns-in_ok-at-in-Some
returns-in_ok-at-in-Some c = binding_then (sym c.in-Some.ensures) c.two.ensures c.in_ok-at-in-Some.was (spells c.ty.ensures)
