-- `sigla_load::write_file` meets its contract.
use Rattle.std.proofs.Common.{subst, OnOk}
use Rattle.std.specs.Io.KnownBytes.{Appends}
use Rattle.input.specs.Gains.{GainsFrontOf}
use Rattle.sigla_load.proofs.Making.{made}
use Rattle.sigla_load.proofs.write_file.Goals as goal

pub returns-in-Some-clause-whole : goal.returns-in-Some-clause-whole
returns-in-Some-clause-whole g c =
    subst (λ l. OnOk c.write.result (Appends (g.W.Write.contents c.args.to.now) (g.W.Write.contents c.write.new.to) l))
    (made c.make.ensures _ c.in-Some.is) c.write.ensures.whole

pub returns-in-Some-clause-front : goal.returns-in-Some-clause-front
returns-in-Some-clause-front g c =
    subst (GainsFrontOf (g.W.Write.contents c.args.to.now) (g.W.Write.contents c.write.new.to)) (made c.make.ensures _ c.in-Some.is) c.write.ensures.front
