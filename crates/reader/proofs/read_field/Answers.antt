-- `reader::read_field` meets its contract: two numbers, each read where the one before it ended.
use Rattle.reader.proofs.Moving.{field_read}
use Rattle.reader.proofs.read_field.Goals as goal

pub returns : goal.returns
returns c = field_read c.half.ensures c.half-2.ensures
