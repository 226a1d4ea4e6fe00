-- The kind, the span and the row, one after the other.
use Rattle.std.proofs.Common.{[], ◌∷◌}
use Rattle.format.specs.Bytes.{bytes₂, bytes₄}
use Rattle.generator.proofs.Lines.{line_after, line_cut}
use Rattle.generator.proofs.node.Goals as goal

pub returns-in_err-at : goal.returns-in_err-at
unfolding bytes₂ bytes₄
returns-in_err-at c = rw c.from_residual.ensures (line_cut (5 ∷ []) _ c.byte.ensures c.in_err-at.was)

pub returns-in_err-at-2 : goal.returns-in_err-at-2
unfolding bytes₂ bytes₄
returns-in_err-at-2 c = rw c.from_residual-in_err-at-2.ensures
    (line_after (5 ∷ []) _ c.byte.ensures c.in_ok-at.was (line_cut (bytes₄ c.args.start) _ c.full.ensures c.in_err-at-2.was))

pub returns-in_err-at-3 : goal.returns-in_err-at-3
unfolding bytes₂ bytes₄
returns-in_err-at-3 c = rw c.from_residual-in_err-at-3.ensures
    (line_after (5 ∷ []) _ c.byte.ensures c.in_ok-at.was
    (line_after (bytes₄ c.args.start) _ c.full.ensures c.in_ok-at-2.was (line_cut (bytes₄ c.args.end) _ c.full-2.ensures c.in_err-at-3.was)))

pub returns : goal.returns
unfolding bytes₂ bytes₄
returns c =
    line_after (5 ∷ []) _ c.byte.ensures c.in_ok-at.was
    (line_after (bytes₄ c.args.start) _ c.full.ensures c.in_ok-at-2.was (line_after (bytes₄ c.args.end) _ c.full-2.ensures c.in_ok-at-3.was c.row.ensures))
