-- `convert::convert` meets its contract, line by line (Walking.antt). The measure is what is left of the file.
use Prim.Native.Nat.{◌-◌}
use lib.ListN.{length}
use Rattle.frames.specs.Promises.{edition_of}
use Rattle.convert.proofs.Walking.{Converting}
use Rattle.convert.proofs.convert.Given as goal

abbrev pub invariant-loop-at : goal.invariant-loop-at
invariant-loop-at l = Converting (edition_of l.edition) l.file l.initial.out l.at l.out l.to

abbrev pub decreases-loop-at : goal.decreases-loop-at
decreases-loop-at l = length l.file - l.at
