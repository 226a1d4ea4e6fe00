-- Line by line. The measure is what is left of the new file.
use Prim.Native.Nat.{◌-◌}
use mathlib.Core.Path.{◌≡◌}
use lib.ListN.{length}
use Rattle.growth.proofs.Walking.{Walking}
use Rattle.growth.proofs.only_added.Given as goal

abbrev pub invariant-loop-m : goal.invariant-loop-m
invariant-loop-m l = (length l.a ≡ 512) × (length l.b ≡ 512) × Walking l.old l.new l.i l.j

abbrev pub decreases-loop-m : goal.decreases-loop-m
decreases-loop-m l = length l.new - l.j
