-- Twice the room left falls: a cell's brace is written before its parts; a type stands one above a cell. To show the parts from j on is to show them all.
use Rattle.std.proofs.Common.{◌+◌, ◌-◌, ◌*◌, length}
use Rattle.messages.proofs.Rendering.{Celling}
use Rattle.messages.proofs.shown.View.+rendering.Given as goal

abbrev pub decreases-cell : goal.decreases-cell
decreases-cell l = 2 * (length l.out.now - l.at)

abbrev pub decreases-render : goal.decreases-render
decreases-render l = 2 * (length l.out.now - l.at) + 1

abbrev pub invariant-cell-loop-j : goal.invariant-cell-loop-j
invariant-cell-loop-j l = Celling l.self.f.now l.self.w.now l.initial.out l.initial.to l.b l.k l.c l.n l.out l.j l.to
