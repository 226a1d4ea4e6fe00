-- The byte, then the number.
use Rattle.std.proofs.Common.{[], ◌∷◌}
use Rattle.writer.proofs.Digits.{hex_then, hex_full}
use Rattle.writer.proofs.tagged.Goals as goal

pub returns-in_err-at : goal.returns-in_err-at
returns-in_err-at c = rw c.from_residual.ensures (hex_full (c.args.b ∷ []) _ c.byte.ensures c.in_err-at.was)

pub returns : goal.returns
returns c = hex_then (c.args.b ∷ []) _ c.byte.ensures c.in_ok-at.was c.half.ensures
