-- One side after the other.
use Rattle.spelling.proofs.Tokening.{spells}
use Rattle.spelling.proofs.Staging.{pair_then, pair_full}
use Rattle.spelling.proofs.pair.Goals as goal

pub returns-in_err-at : goal.returns-in_err-at
returns-in_err-at c = rw c.from_residual.ensures (pair_full (spells c.ty.ensures) c.in_err-at.was)

pub returns : goal.returns
returns c = pair_then (spells c.ty.ensures) c.in_ok-at.was (spells c.ty-2.ensures)
