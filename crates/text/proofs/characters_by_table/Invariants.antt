-- What is counted, added to the count of the bytes that are left after what the state wants, is the count of all.
use Rattle.std.proofs.Common.{◌≡◌, ◌<◌, ◌≤◌, drop}
use Rattle.text.specs.Machine.{wanted}
use Rattle.text.specs.Utf8.{characters}
use Rattle.text.proofs.Walk.{plus}
use Rattle.text.proofs.Tabled.{rest}
use Rattle.text.proofs.characters_by_table.Given as goal

abbrev pub invariant-loop-b : goal.invariant-loop-b
invariant-loop-b l = record {
  few : l.chars ≤ l.b-index;
  in_table : l.state < 8;
  counted : characters l.s ≡ plus l.chars (rest (wanted l.state) (drop l.b-index l.s));
}
