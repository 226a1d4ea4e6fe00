-- The sixteen bytes after the first two of the line, copied.
use borrow.Author.Rules.{rules}
use mathlib.Core.Path.{◌≡◌}
use Prim.Native.Nat.{◌-◌}
use lib.ListN.{length, take, drop}
use Rattle.state.proofs.Telling.{span_copied}
use Rattle.state.proofs.span.Goals as goal

pub returns : goal.returns
returns c =
    let line : c.in_ok-get.field-0.now ≡ take (length c.args.f.now - c.args.line) (drop c.args.line c.args.f.now) = search rules in
    let digits : c.in_ok-digits.digits.now ≡ take 16 (drop 2 c.in_ok-get.field-0.now) = search rules in
    span_copied line digits c.copy.ensures
