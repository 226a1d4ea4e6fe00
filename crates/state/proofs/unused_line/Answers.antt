-- The line's kind, the span, then LF.
use mathlib.Core.Path.{refl}
use Rattle.state.proofs.Telling.{head_then, head_full, unused_then, unused_full}
use Rattle.state.proofs.unused_line.Goals as goal

pub returns-in_err-at : goal.returns-in_err-at
returns-in_err-at c = rw c.from_residual.ensures (unused_full _ refl (head_full c.byte.ensures c.in_err-at.was) refl)

pub returns-in_err-at-2 : goal.returns-in_err-at-2
returns-in_err-at-2 c = rw c.from_residual-in_err-at-2.ensures
    (unused_full c.line_start.result c.line_start.ensures (head_then c.byte.ensures c.in_ok-at.was c.span.ensures) c.in_err-at-2.was)

pub returns : goal.returns
returns c = unused_then c.line_start.result c.line_start.ensures (head_then c.byte.ensures c.in_ok-at.was c.span.ensures) c.in_ok-at-2.was c.close.ensures
