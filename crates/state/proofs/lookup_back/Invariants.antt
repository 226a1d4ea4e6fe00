-- What is sought is among the first entries, up to this one.
use Rattle.std.proofs.Common.{◌≡◌}
use Rattle.meaning.specs.Check.{lookup_in}
use Rattle.state.specs.Words.{env_of}
use Rattle.state.proofs.lookup_back.Given as goal

abbrev pub invariant-loop-i : goal.invariant-loop-i
invariant-loop-i l = lookup_in (env_of l.w l.n) l.symbol ≡ lookup_in (env_of l.w l.i) l.symbol
