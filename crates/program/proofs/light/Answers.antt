-- `program::light` meets its contract.
use borrow.Author.Rules.{rules}
use Rattle.std.specs.Io.KnownBytes.{Appends}
use Rattle.input.specs.Gains.{GainsFrontOf}
use Rattle.program.proofs.Edge.{lamp_written, if_ok}
use Rattle.program.proofs.light.Goals as goal

pub returns-clause-whole : goal.returns-clause-whole
returns-clause-whole g c =
    if_ok c.write.result
    (lamp_written (g.R.Read.remaining c.args.from.now) _ _ (search rules) c.in_ok-n.ensures.front
    (Appends (g.W.Write.contents c.args.to.now) (g.W.Write.contents c.write.new.to)) c.lamp_line.ensures)
    c.write.ensures.whole

pub returns-clause-front : goal.returns-clause-front
returns-clause-front g c =
    lamp_written (g.R.Read.remaining c.args.from.now) _ _ (search rules) c.in_ok-n.ensures.front
    (GainsFrontOf (g.W.Write.contents c.args.to.now) (g.W.Write.contents c.write.new.to)) c.lamp_line.ensures c.write.ensures.front
