-- The line's bytes and LF.
use Rattle.writer.proofs.Digits.{line_then, line_full}
use Rattle.answer.proofs.number_line.Goals as goal

pub returns-in_err-at : goal.returns-in_err-at
returns-in_err-at c = rw c.from_residual.ensures (line_full _ c.tagged.ensures c.in_err-at.was)

pub returns : goal.returns
returns c = line_then _ c.tagged.ensures c.in_ok-at.was c.close.ensures
