-- The shape, then the number.
use Rattle.std.proofs.Common.{[], ◌∷◌}
use Rattle.format.specs.Bytes.{bytes₄}
use Rattle.writer.proofs.Digits.{hex_then, hex_full}
use Rattle.answer.proofs.fact.Goals as goal

pub returns-in_err-at : goal.returns-in_err-at
returns-in_err-at c = rw c.from_residual.ensures (hex_full (3 ∷ []) (bytes₄ c.args.p) c.byte.ensures c.in_err-at.was)

pub returns : goal.returns
returns c = hex_then (3 ∷ []) (bytes₄ c.args.p) c.byte.ensures c.in_ok-at.was c.full.ensures
