-- None was found if and only if the print is at none of the first k.
use Prim.Native.Nat.{ℕ, ◌+◌, ◌<◌}
use Rattle.std.proofs.Common.{◌≡◌, get_or}
use Rattle.std.specs.Prelude.{◌↔◌, false}
use Rattle.reading.proofs.names.none_has.Given as goal

abbrev pub invariant-loop-k : goal.invariant-loop-k
invariant-loop-k l = (l.found ≡ false) ↔ ((m : ℕ) → m < l.k → ¬ (get_or l.prints (l.i + m) 0 ≡ l.print))
