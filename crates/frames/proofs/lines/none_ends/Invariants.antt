-- None was found if and only if LF stands at none of the first k.
use Prim.Native.Nat.{ℕ, ◌+◌, ◌<◌}
use Rattle.std.proofs.Common.{◌≡◌, get_or}
use Rattle.std.specs.Prelude.{◌↔◌, false}
use Rattle.format.specs.Lines.{LF}
use Rattle.frames.proofs.lines.none_ends.Given as goal

abbrev pub invariant-loop-k : goal.invariant-loop-k
invariant-loop-k l = (l.found ≡ false) ↔ ((m : ℕ) → m < l.k → ¬ (get_or l.file (l.i + m) 0 ≡ LF))
