-- Statements fill what is left exactly where they fill the whole.
use mathlib.Core.Path.{◌≡◌}
use lib.ListN.{length}
use Rattle.format.specs.Frame.{many}
use Rattle.frames.specs.Promises.{wholly, statement}
use Rattle.frames.proofs.forms.are_statements.Given as goal

abbrev pub invariant-loop-rest : goal.invariant-loop-rest
invariant-loop-rest l = wholly (many statement l.s) ≡ wholly (many statement l.rest)

abbrev pub decreases-loop-rest : goal.decreases-loop-rest
decreases-loop-rest l = length l.rest
