use Rattle.writer.specs.Writes.{hex_of}
use Rattle.writer.proofs.Writing.{writes_then, writes_full}
use Rattle.writer.proofs.byte.Goals as goal

pub returns-in_err-at : goal.returns-in_err-at
unfolding hex_of
returns-in_err-at c = rw (c.from_residual.ensures, ← c.hex_digit.ensures) (writes_full c.one.ensures c.in_err-at.was _)

pub returns : goal.returns
unfolding hex_of
returns c = rw (← c.hex_digit.ensures, ← c.hex_digit-2.ensures) (writes_then c.one.ensures c.in_ok-at.was c.one-2.ensures)
