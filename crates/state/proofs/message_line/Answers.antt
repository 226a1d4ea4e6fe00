-- The line's kind, the text, then LF.
use mathlib.Core.Path.{refl}
use Rattle.state.proofs.Telling.{said_then, said_full, message_then, message_full}
use Rattle.state.proofs.message_line.Goals as goal

pub returns-in_err-at : goal.returns-in_err-at
returns-in_err-at c = rw c.from_residual.ensures (message_full (said_full c.byte.ensures c.in_err-at.was) refl)

pub returns-in_err-at-2 : goal.returns-in_err-at-2
returns-in_err-at-2 c = rw c.from_residual-in_err-at-2.ensures (message_full (said_then c.byte.ensures c.in_ok-at.was c.text.ensures) c.in_err-at-2.was)

pub returns : goal.returns
returns c = message_then (said_then c.byte.ensures c.in_ok-at.was c.text.ensures) c.in_ok-at-2.was c.close.ensures
