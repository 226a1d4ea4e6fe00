use Rattle.sigla_hex.proofs.Values.{value_is, value_most}
use Rattle.sigla_hex.proofs.value.Goals as goal

pub returns-clause-is : goal.returns-clause-is
returns-clause-is c = rw c.from.ensures (value_is c.args.b c.ranges.b.fits)

pub returns-clause-most : goal.returns-clause-most
returns-clause-most c = rw c.from.ensures (value_most c.args.b c.ranges.b.fits)
