-- `reader::read_limits` meets its contract: two numbers, each read where the one before it ended.
use Rattle.reader.proofs.Moving.{limits_read}
use Rattle.reader.proofs.read_limits.Goals as goal

pub returns : goal.returns
returns c = limits_read c.byte.ensures c.half.ensures
