-- Whether it is one of the marks so far.
use Rattle.std.proofs.Common.{◌≡◌}
use Rattle.meaning.specs.Check.{is_in}
use Rattle.state.specs.Words.{marks_of}
use Rattle.state.proofs.is_marked_within.Given as goal

abbrev pub invariant-loop-i : goal.invariant-loop-i
invariant-loop-i l = l.found ≡ is_in l.var (marks_of l.w l.i)
