-- `lamp::ask` meets its contract, query by query (Asking.antt). The measure is what is left of the file.
use Prim.Native.Nat.{◌-◌, ◌+◌, ◌<◌, ◌≤◌}
use lib.ListN.{length}
use Rattle.work.specs.Layout.{LEFT}
use Rattle.unify.specs.Purses.{spent}
use Rattle.lamp.proofs.Asking.{Asking}
use Rattle.lamp.proofs.ask.Given as goal

abbrev pub invariant-loop-at : goal.invariant-loop-at
invariant-loop-at l = Asking l.file l.initial.work l.work l.at l.visits
    × (LEFT < length l.initial.work → spent l.purse ≤ spent l.initial.purse + l.visits)

abbrev pub decreases-loop-at : goal.decreases-loop-at
decreases-loop-at l = length l.file - l.at
