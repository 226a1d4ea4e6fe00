-- No line changes how many files there are of a kind.
use Rattle.std.proofs.Common.{◌≡◌}
use Rattle.load_counts.proofs.Counts.count_lines.Given as goal

abbrev pub invariant-loop-line : goal.invariant-loop-line
invariant-loop-line l = record {
  accepted : l.self.accepted ≡ l.fn.self.accepted;
  with_one : l.self.with_diagnostic ≡ l.fn.self.with_diagnostic;
  without : l.self.without ≡ l.fn.self.without;
}

abbrev pub invariant-loop-text : goal.invariant-loop-text
invariant-loop-text l = record {
  accepted : l.self.accepted ≡ l.fn.self.accepted;
  with_one : l.self.with_diagnostic ≡ l.fn.self.with_diagnostic;
  without : l.self.without ≡ l.fn.self.without;
}
