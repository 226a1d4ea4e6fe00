-- The line's kind, the span, the code, then LF.
use mathlib.Core.Path.{refl}
use Rattle.state.proofs.Telling.{head_then, head_full, diagnostic_then, diagnostic_full, code_then, code_full}
use Rattle.state.proofs.code_line.Goals as goal

pub returns-in_err-at : goal.returns-in_err-at
returns-in_err-at c = rw c.from_residual.ensures (code_full (diagnostic_full _ refl (head_full c.byte.ensures c.in_err-at.was) refl) refl)

pub returns-in_err-at-2 : goal.returns-in_err-at-2
returns-in_err-at-2 c = rw c.from_residual-in_err-at-2.ensures
    (code_full (diagnostic_full c.line_start.result c.line_start.ensures (head_then c.byte.ensures c.in_ok-at.was c.span.ensures) c.in_err-at-2.was) refl)

pub returns-in_err-at-3 : goal.returns-in_err-at-3
returns-in_err-at-3 c = rw c.from_residual-in_err-at-3.ensures
    (code_full (diagnostic_then c.line_start.result c.line_start.ensures (head_then c.byte.ensures c.in_ok-at.was c.span.ensures) c.in_ok-at-2.was
    c.code_text.ensures) c.in_err-at-3.was)

pub returns : goal.returns
returns c = code_then (diagnostic_then c.line_start.result c.line_start.ensures (head_then c.byte.ensures c.in_ok-at.was c.span.ensures) c.in_ok-at-2.was
    c.code_text.ensures) c.in_ok-at-3.was c.close.ensures
