-- The line, and the bindings.
use Rattle.std.proofs.Common.{◌≡◌, min, length, rules}
use Rattle.sigla_inspect.specs.Text.{bound}
use Rattle.sigla_inspect.specs.Promises.{words_bound}
use Rattle.sigla_inspect.proofs.Inspecting.{words_are, line_gained, all_written}
use Rattle.sigla_inspect.proofs.write_inspected.Goals as goal

pub returns-in_err-write : goal.returns-in_err-write
returns-in_err-write g c x told lent =
    record { whole = search rules; front = line_gained c.args.inspected x told _ _ _ c.line.ensures c.write.ensures.front }

pub returns : goal.returns
returns g c x told lent =
    let end : c.min-end.result ≡ min (words_bound c.args.inspected) (length c.args.lent.now) = rw (← c.words_bound.ensures) c.min-end.ensures in
    all_written c.args.inspected x told _ _ _ c.line.ensures c.in_ok-write.ensures.whole _ c.write_bindings.result
    (c.write_bindings.ensures (bound x) (words_are c.args.inspected x c.args.lent.now c.min-end.result told lent end))
