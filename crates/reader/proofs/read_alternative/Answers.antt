-- `reader::read_alternative` meets its contract: three numbers, each read where the one before it ended.
use Rattle.reader.proofs.Moving.{alternative_read}
use Rattle.reader.proofs.read_alternative.Goals as goal

pub returns : goal.returns
returns c = alternative_read c.half.ensures c.full.ensures c.half-2.ensures
