use Rattle.writer.proofs.Digits.{hex_then, hex_full, low_bytes}
use Rattle.writer.proofs.half.Goals as goal

pub returns-in_err-at : goal.returns-in_err-at
returns-in_err-at c = rw (c.from_residual.ensures, ← low_bytes c.args.x c.to_be_bytes.ensures) (hex_full _ _ c.byte.ensures c.in_err-at.was)

pub returns : goal.returns
returns c = rw (← low_bytes c.args.x c.to_be_bytes.ensures) (hex_then _ _ c.byte.ensures c.in_ok-at.was c.byte-2.ensures)
