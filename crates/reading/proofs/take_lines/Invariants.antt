-- `reading::take_lines` meets its contract. The invariant: what was read so far is held, and reading what is left is
-- reading the file. The measure is what is left of the file.
use Prim.Native.Nat.{◌-◌}
use mathlib.Core.Path.{◌≡◌}
use lib.ListN.{length}
use Rattle.frames.specs.Promises.{edition_of}
use Rattle.reading.proofs.AllLines.{Midway}
use Rattle.reading.proofs.take_lines.Given as goal

abbrev pub invariant-loop-at : goal.invariant-loop-at
invariant-loop-at l = (length l.bytes ≡ 512) × (length l.w ≡ length l.initial.w)
    × Midway (edition_of l.edition) l.file l.w l.prints l.c l.previous l.at

abbrev pub decreases-loop-at : goal.decreases-loop-at
decreases-loop-at l = length l.file - l.at
