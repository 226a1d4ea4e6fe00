-- `frames::decode` meets its contract. The invariant of both loops: the bytes read so far, in front of what the line holds from here on,
-- are what it holds.
use Prim.Native.Nat.{◌+◌, ◌-◌, ◌*◌, ◌≤◌}
use Rattle.frames.proofs.Decoding.{SoFar}
use Rattle.frames.proofs.lines.decode.Given as goal

abbrev pub invariant-loop-n : goal.invariant-loop-n
invariant-loop-n l = SoFar l.file l.at l.line (l.at + 2 * l.n) l.n × (l.n ≤ l.most)

abbrev pub decreases-loop-n : goal.decreases-loop-n
decreases-loop-n l = l.most - l.n

abbrev pub invariant-loop-n-2 : goal.invariant-loop-n-2
invariant-loop-n-2 l = SoFar l.file l.at l.line (l.at + 2 * l.n) l.n × (l.n ≤ l.most)

abbrev pub decreases-loop-n-2 : goal.decreases-loop-n-2
decreases-loop-n-2 l = l.most - l.n
