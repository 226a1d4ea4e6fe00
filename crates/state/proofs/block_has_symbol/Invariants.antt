-- Whether one of those so far is the variable's.
use Rattle.std.proofs.Common.{◌≡◌}
use Rattle.meaning.specs.Check.{is_in}
use Rattle.state.specs.Words.{symbols_of}
use Rattle.state.proofs.block_has_symbol.Given as goal

abbrev pub invariant-loop-i : goal.invariant-loop-i
invariant-loop-i l = l.found ≡ is_in l.symbol (symbols_of l.w l.from l.i)
