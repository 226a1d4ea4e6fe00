-- The kind, then the row.
use Rattle.std.proofs.Common.{[], ◌∷◌}
use Rattle.generator.proofs.Lines.{line_after, line_cut}
use Rattle.generator.proofs.line.Goals as goal

pub returns-in_err-at : goal.returns-in_err-at
returns-in_err-at c = rw c.from_residual.ensures (line_cut (c.args.kind ∷ []) _ c.byte.ensures c.in_err-at.was)

pub returns : goal.returns
returns c = line_after (c.args.kind ∷ []) _ c.byte.ensures c.in_ok-at.was c.row.ensures
