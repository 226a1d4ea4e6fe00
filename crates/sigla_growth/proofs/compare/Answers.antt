-- `sigla_growth::compare` meets its contract.
use borrow.Author.Rules.{rules}
use Rattle.std.specs.Io.KnownBytes.{Appends}
use Rattle.input.specs.Gains.{GainsFrontOf}
use Rattle.sigla_growth.specs.Promises.{known}
use Rattle.sigla_growth.proofs.Telling.{line_told, as_counted, as_read}
use Rattle.sigla_growth.proofs.compare.Goals as goal

pub returns-in_err-write-clause-front : goal.returns-in_err-write-clause-front
returns-in_err-write-clause-front g c =
    as_counted (GainsFrontOf (g.W.Write.contents c.args.to.now) (g.W.Write.contents c.write.new.to))
    (known g.R.Read.remaining c.args.old) (known g.R.Read.remaining c.args.new) c.take_file-n.result.failed c.take_file-m.result.failed
    (line_told c.take_file-n.result.bytes c.take_file-m.result.bytes c.take_file-n.new.into c.take_file-m.new.into _ _ _
    (search rules) (search rules) (search rules) c.check_growth-p.ensures.told c.premises_line-line.ensures
    (known g.R.Read.remaining c.args.old) (known g.R.Read.remaining c.args.new) c.take_file-n.result.failed c.take_file-m.result.failed
    c.take_file-n.ensures.front c.take_file-m.ensures.front
    (GainsFrontOf (g.W.Write.contents c.args.to.now) (g.W.Write.contents c.write.new.to)) c.write.ensures.front)

pub returns-then-n-clause-without : goal.returns-then-n-clause-without
returns-then-n-clause-without g c failed =
    as_counted (Appends (g.W.Write.contents c.args.to.now) (g.W.Write.contents c.write.new.to))
    (known g.R.Read.remaining c.args.old) (known g.R.Read.remaining c.args.new) c.take_file-n.result.failed c.take_file-m.result.failed
    (line_told c.take_file-n.result.bytes c.take_file-m.result.bytes c.take_file-n.new.into c.take_file-m.new.into _ _ _
    (search rules) (search rules) (search rules) c.check_growth-p.ensures.told c.premises_line-line.ensures
    (known g.R.Read.remaining c.args.old) (known g.R.Read.remaining c.args.new) c.take_file-n.result.failed c.take_file-m.result.failed
    c.take_file-n.ensures.front c.take_file-m.ensures.front
    (Appends (g.W.Write.contents c.args.to.now) (g.W.Write.contents c.write.new.to)) c.in_ok-write.ensures.whole)

pub returns-then-n-clause-front : goal.returns-then-n-clause-front
returns-then-n-clause-front g c =
    as_counted (GainsFrontOf (g.W.Write.contents c.args.to.now) (g.W.Write.contents c.write.new.to))
    (known g.R.Read.remaining c.args.old) (known g.R.Read.remaining c.args.new) c.take_file-n.result.failed c.take_file-m.result.failed
    (line_told c.take_file-n.result.bytes c.take_file-m.result.bytes c.take_file-n.new.into c.take_file-m.new.into _ _ _
    (search rules) (search rules) (search rules) c.check_growth-p.ensures.told c.premises_line-line.ensures
    (known g.R.Read.remaining c.args.old) (known g.R.Read.remaining c.args.new) c.take_file-n.result.failed c.take_file-m.result.failed
    c.take_file-n.ensures.front c.take_file-m.ensures.front
    (GainsFrontOf (g.W.Write.contents c.args.to.now) (g.W.Write.contents c.write.new.to)) c.write.ensures.front)

pub returns-clause-whole : goal.returns-clause-whole
returns-clause-whole g c =
    as_read (Appends (g.W.Write.contents c.args.to.now) (g.W.Write.contents c.write.new.to))
    (known g.R.Read.remaining c.args.old) (known g.R.Read.remaining c.args.new) c.take_file-n.result.failed c.take_file-m.result.failed
    (search rules) (search rules)
    (line_told c.take_file-n.result.bytes c.take_file-m.result.bytes c.take_file-n.new.into c.take_file-m.new.into _ _ _
    (search rules) (search rules) (search rules) c.check_growth-p.ensures.told c.premises_line-line.ensures
    (known g.R.Read.remaining c.args.old) (known g.R.Read.remaining c.args.new) c.take_file-n.result.failed c.take_file-m.result.failed
    c.take_file-n.ensures.front c.take_file-m.ensures.front
    (Appends (g.W.Write.contents c.args.to.now) (g.W.Write.contents c.write.new.to)) c.in_ok-write.ensures.whole)

pub returns-clause-front : goal.returns-clause-front
returns-clause-front g c =
    as_counted (GainsFrontOf (g.W.Write.contents c.args.to.now) (g.W.Write.contents c.write.new.to))
    (known g.R.Read.remaining c.args.old) (known g.R.Read.remaining c.args.new) c.take_file-n.result.failed c.take_file-m.result.failed
    (line_told c.take_file-n.result.bytes c.take_file-m.result.bytes c.take_file-n.new.into c.take_file-m.new.into _ _ _
    (search rules) (search rules) (search rules) c.check_growth-p.ensures.told c.premises_line-line.ensures
    (known g.R.Read.remaining c.args.old) (known g.R.Read.remaining c.args.new) c.take_file-n.result.failed c.take_file-m.result.failed
    c.take_file-n.ensures.front c.take_file-m.ensures.front
    (GainsFrontOf (g.W.Write.contents c.args.to.now) (g.W.Write.contents c.write.new.to)) c.write.ensures.front)
