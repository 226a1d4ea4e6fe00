-- The high half, then the low one.
use Rattle.format.specs.Bytes.{bytes₄}
use Rattle.writer.proofs.Digits.{hex_then, hex_full}
use Rattle.writer.proofs.full.Goals as goal

pub returns-in_err-at : goal.returns-in_err-at
unfolding bytes₄
returns-in_err-at c = rw c.from_residual.ensures (hex_full _ _ c.half.ensures c.in_err-at.was)

pub returns : goal.returns
unfolding bytes₄
returns c = hex_then _ _ c.half.ensures c.in_ok-at.was c.half-2.ensures
