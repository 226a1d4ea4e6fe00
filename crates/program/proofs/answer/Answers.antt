-- `program::answer` meets its contract.
use borrow.Author.Rules.{rules}
use Rattle.std.specs.Io.KnownBytes.{Appends}
use Rattle.input.specs.Gains.{GainsFrontOf}
use Rattle.program.proofs.Edge.{job_written, if_ok}
use Rattle.program.proofs.answer.Goals as goal

pub returns-clause-whole : goal.returns-clause-whole
returns-clause-whole g c =
    if_ok c.write.result
    (job_written (g.R.Read.remaining c.args.from.now) _ _ (search rules) c.in_ok-n.ensures.front
    (Appends (g.W.Write.contents c.args.to.now) (g.W.Write.contents c.write.new.to)) c.args.job c.printed-m.ensures.prints)
    c.write.ensures.whole

pub returns-clause-front : goal.returns-clause-front
returns-clause-front g c =
    job_written (g.R.Read.remaining c.args.from.now) _ _ (search rules) c.in_ok-n.ensures.front
    (GainsFrontOf (g.W.Write.contents c.args.to.now) (g.W.Write.contents c.write.new.to)) c.args.job c.printed-m.ensures.prints c.write.ensures.front
