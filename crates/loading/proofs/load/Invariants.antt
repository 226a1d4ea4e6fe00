-- `loading::load` meets its contract, line by line (Loading.antt). The measure is what is left of the file.
use Prim.Native.Nat.{◌-◌}
use lib.ListN.{length}
use Rattle.loading.proofs.Loading.{Loading}
use Rattle.loading.proofs.load.Given as goal

abbrev pub invariant-loop-kind : goal.invariant-loop-kind
invariant-loop-kind l = Loading l.file l.at l.initial.w l.w l.i l.nodes

abbrev pub decreases-loop-kind : goal.decreases-loop-kind
decreases-loop-kind l = length l.file - l.i
