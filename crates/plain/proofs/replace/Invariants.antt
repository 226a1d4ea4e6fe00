-- To replace in the words from here on is to replace in all.
use Rattle.std.proofs.Common.{length}
use Rattle.plain.specs.Tokens.{swapped}
use Rattle.plain.proofs.Passes.{Left}
use Rattle.plain.proofs.replace.Given as goal

abbrev pub invariant-loop-rest : goal.invariant-loop-rest
invariant-loop-rest l = Left l.initial.out l.at (swapped l.x l.ts l.ws) l.out l.to (swapped l.x l.ts l.rest)

abbrev pub decreases-loop-rest : goal.decreases-loop-rest
decreases-loop-rest l = length l.rest
