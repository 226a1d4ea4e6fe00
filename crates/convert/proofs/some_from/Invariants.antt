-- `convert::some_from` meets its contract, line by line (Walking.antt). The measure is what is left of the file.
use Prim.Native.Nat.{◌-◌}
use lib.ListN.{length}
use Rattle.convert.proofs.Walking.{Seeking}
use Rattle.convert.proofs.some_from.Given as goal

abbrev pub invariant-loop-n : goal.invariant-loop-n
invariant-loop-n l = Seeking l.file l.least l.at

abbrev pub decreases-loop-n : goal.decreases-loop-n
decreases-loop-n l = length l.file - l.at
