-- The words of all parts written to the words at the start are those of the parts left written to the words now.
use mathlib.Core.Path.{◌≡◌}
use Prim.Native.Nat.{◌+◌, ◌*◌, ◌≤◌}
use lib.ListN.{drop}
use lib.Seq.{sets}
use Rattle.work.specs.Layout.{FIELDS}
use Rattle.reading.specs.Parts.{words_of}
use Rattle.reading.proofs.parts.put_parts.Given as goal

abbrev pub invariant-loop-bytes : goal.invariant-loop-bytes
invariant-loop-bytes g l = record {
  place : l.at ≤ FIELDS + l.from + 2 * l.bytes-index;
  words : sets l.initial.w (FIELDS + l.from) (words_of g.P.Part.kind l.parts) ≡ sets l.w l.at (words_of g.P.Part.kind (drop l.bytes-index l.parts));
}
