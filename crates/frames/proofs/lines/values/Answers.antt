use Rattle.frames.proofs.Digits.{lanes}
use Rattle.frames.proofs.lines.values.Goals as goal

pub returns : goal.returns
returns c = lanes 16 c.args.bytes c.fits-bytes.0 c.fits-bytes.1
