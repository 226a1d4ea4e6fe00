-- The byte, the number and LF.
use Rattle.std.proofs.Common.{[], ◌∷◌, refl}
use Rattle.format.specs.Bytes.{bytes₄}
use Rattle.writer.proofs.Digits.{hex_then, hex_full, line_then, line_full}
use Rattle.answer.proofs.visits_line.Goals as goal

pub returns-in_err-at : goal.returns-in_err-at
returns-in_err-at c = rw c.from_residual.ensures (line_full _ (hex_full (9 ∷ []) (bytes₄ c.args.visits) c.byte.ensures c.in_err-at.was) refl)

pub returns-in_err-at-2 : goal.returns-in_err-at-2
returns-in_err-at-2 c = rw c.from_residual-in_err-at-2.ensures
    (line_full _ (hex_then (9 ∷ []) (bytes₄ c.args.visits) c.byte.ensures c.in_ok-at.was c.full.ensures) c.in_err-at-2.was)

pub returns : goal.returns
returns c = line_then _ (hex_then (9 ∷ []) (bytes₄ c.args.visits) c.byte.ensures c.in_ok-at.was c.full.ensures) c.in_ok-at-2.was c.close.ensures
