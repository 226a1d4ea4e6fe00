-- The table has the digits.
use Rattle.writer.proofs.Digits.{digit_at}
use Rattle.writer.proofs.hex_digit.Goals as goal

pub returns : goal.returns
returns c = rw c.from.ensures (digit_at c.args.n c.requires)
