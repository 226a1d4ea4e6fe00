-- Each turn takes a kind and two bytes at least, and changes only how many statements there are of a kind.
use Rattle.std.proofs.Common.{◌≡◌, length}
use Rattle.load_counts.proofs.Counts.count_statements.Given as goal

abbrev pub invariant-loop-rest : goal.invariant-loop-rest
invariant-loop-rest l = l.self ≡ record l.fn.self { statements = l.self.statements }

abbrev pub decreases-loop-rest : goal.decreases-loop-rest
decreases-loop-rest l = length l.rest
