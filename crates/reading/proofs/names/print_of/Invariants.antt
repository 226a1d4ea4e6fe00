-- The last four bytes, and the fours so far.
use Rattle.std.proofs.Common.{◌≡◌}
use Rattle.reading.specs.Prints.{mixed}
use Rattle.reading.proofs.names.print_of.Given as goal

abbrev pub invariant-loop-k : goal.invariant-loop-k
invariant-loop-k l = l.mixed ≡ mixed l.s l.k
