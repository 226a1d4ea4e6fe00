-- The text was given before exactly where it is among the names from the block's first on, or from j on.
use Prim.Native.Nat.{◌*◌}
use Rattle.reading.proofs.Texts.{Looking}
use Rattle.reading.proofs.names.given_before.Given as goal

abbrev pub invariant-loop-b : goal.invariant-loop-b
invariant-loop-b l = Looking l.line.file.now l.line.at l.line.bytes.now l.w l.prints l.fn.names (16 * l.b)

abbrev pub invariant-loop-j : goal.invariant-loop-j
invariant-loop-j l = Looking l.line.file.now l.line.at l.line.bytes.now l.w l.prints l.fn.names l.j
