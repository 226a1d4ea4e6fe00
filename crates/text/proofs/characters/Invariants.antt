-- What is counted, added to the count of the bytes that are left, is the count of all.
use Rattle.std.proofs.Common.{◌≡◌, ◌+◌, ◌≤◌, length}
use Rattle.text.specs.Star.{Every}
use Rattle.text.specs.Utf8.{characters}
use Rattle.text.proofs.Agree.{Byte}
use Rattle.text.proofs.Walk.{plus}
use Rattle.text.proofs.characters.Given as goal

abbrev pub invariant-loop-rest : goal.invariant-loop-rest
invariant-loop-rest l = record {
  room : l.count + length l.rest ≤ length l.s;
  bytes : Every Byte l.rest;
  counted : characters l.s ≡ plus l.count (characters l.rest);
}

abbrev pub decreases-loop-rest : goal.decreases-loop-rest
decreases-loop-rest l = length l.rest
