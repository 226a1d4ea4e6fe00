-- `reader::read_predicate` meets its contract: four numbers, each read where the one before it ended.
use Rattle.reader.proofs.Moving.{predicate_read}
use Rattle.reader.proofs.read_predicate.Goals as goal

pub returns : goal.returns
returns c = predicate_read c.half.ensures c.half-2.ensures c.byte.ensures c.half-3.ensures
