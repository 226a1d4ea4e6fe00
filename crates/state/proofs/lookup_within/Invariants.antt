-- What is sought is before this one.
use Rattle.std.proofs.Common.{◌≡◌, ◌≤◌}
use Rattle.meaning.specs.Check.{lookup_in}
use Rattle.state.specs.Words.{env_of}
use Rattle.state.proofs.lookup_within.Given as goal

abbrev pub invariant-loop-end : goal.invariant-loop-end
invariant-loop-end l = (l.end ≤ l.n) × (lookup_in (env_of l.w l.n) l.symbol ≡ lookup_in (env_of l.w l.end) l.symbol)

abbrev pub decreases-loop-end : goal.decreases-loop-end
decreases-loop-end l = l.end
