-- To seek in the words from here on is to seek in all.
use Rattle.std.proofs.Common.{◌≡◌, length}
use Rattle.plain.specs.Tokens.{among}
use Rattle.plain.proofs.occurs.Given as goal

abbrev pub invariant-loop-rest : goal.invariant-loop-rest
invariant-loop-rest l = among l.x l.ws ≡ among l.x l.rest

abbrev pub decreases-loop-rest : goal.decreases-loop-rest
decreases-loop-rest l = length l.rest
