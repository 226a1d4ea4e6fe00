use Rattle.plain.proofs.Types.{no_type, behind_fewer, first_type}
use Rattle.plain.proofs.first_type.Goals as goal

pub returns-in_err-rest : goal.returns-in_err-rest
returns-in_err-rest c = rw c.from_residual.ensures (no_type _ c.in_err-rest.ensures)

pub overflow_sub-ws : goal.overflow_sub-ws
overflow_sub-ws c = behind_fewer _ _ c.in_ok-rest.ensures

pub returns : goal.returns
returns c = first_type _ _ c.in_ok-rest.ensures c.split_at.ensures.front c.split_at.ensures.back
