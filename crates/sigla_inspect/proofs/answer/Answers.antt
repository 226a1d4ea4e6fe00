-- Of the whole file.
use Rattle.std.proofs.Common.{rules}
use Rattle.std.specs.Io.KnownBytes.{Appends}
use Rattle.input.specs.Gains.{GainsFrontOf}
use Rattle.sigla_inspect.proofs.Inspecting.{inspected_so, of_whole, if_ok}
use Rattle.sigla_inspect.proofs.answer.Goals as goal

pub returns-clause-whole : goal.returns-clause-whole
returns-clause-whole g c =
    let i = inspected_so c.inspect-inspected.ensures.is (search rules) (search rules) (search rules) in
    if_ok c.write_inspected.result
    (of_whole (g.R.Read.remaining c.args.from.now) c.args.number _ _ (search rules) c.in_ok-n.ensures.front
    (Appends (g.W.Write.contents c.args.to.now) (g.W.Write.contents c.write_inspected.new.to)))
    (c.write_inspected.ensures _ i.0 i.1).whole

pub returns-clause-front : goal.returns-clause-front
returns-clause-front g c =
    let i = inspected_so c.inspect-inspected.ensures.is (search rules) (search rules) (search rules) in
    of_whole (g.R.Read.remaining c.args.from.now) c.args.number _ _ (search rules) c.in_ok-n.ensures.front
    (GainsFrontOf (g.W.Write.contents c.args.to.now) (g.W.Write.contents c.write_inspected.new.to))
    (c.write_inspected.ensures _ i.0 i.1).front
