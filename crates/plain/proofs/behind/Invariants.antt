-- What is left after so many from here on is what is left after n from the start; each takes a word at least.
use Rattle.std.proofs.Common.{◌≡◌, length}
use Rattle.plain.specs.Tokens.{behind}
use Rattle.plain.proofs.behind.Given as goal

abbrev pub invariant-loop-owes : goal.invariant-loop-owes
invariant-loop-owes l = behind l.ws l.n ≡ behind l.rest l.owes

abbrev pub decreases-loop-owes : goal.decreases-loop-owes
decreases-loop-owes l = length l.rest
