-- A byte at least is read in each turn that goes on, and the slice keeps its length.
use Rattle.std.proofs.Common.{length, take, ◌-◌, ◌≡◌, ◌≤◌}
use Rattle.std.specs.Io.KnownBytes.{Consumes}
use Rattle.input.proofs.read.Given as goal

abbrev pub invariant-loop-n : goal.invariant-loop-n
invariant-loop-n g l = (l.n ≤ length l.into) × (length l.into ≡ length l.initial.into)
    × Consumes (g.R.Read.remaining l.initial.from) (g.R.Read.remaining l.from) (take l.n l.into)

abbrev pub decreases-loop-n : goal.decreases-loop-n
decreases-loop-n g l = length l.into - l.n
