-- The line with the code, then the one with the text.
use Rattle.state.proofs.Telling.{both_then, both_full}
use Rattle.state.proofs.line.Goals as goal

pub returns-in_err-e : goal.returns-in_err-e
returns-in_err-e c = rw c.from_residual.ensures (both_full c.code_line.ensures c.in_err-e.was)

pub returns : goal.returns
returns c = both_then c.code_line.ensures c.in_ok-e.was c.message_line.ensures
