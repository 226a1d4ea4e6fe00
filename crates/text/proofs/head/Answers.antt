use Rattle.std.proofs.Common.{◌/◌, ◌^◌, bit_and, refl}
use Rattle.text.specs.Rule.{ones_of, ones, head}
use Rattle.text.proofs.Bytes.{same_at_bytes}
use Rattle.text.proofs.head.Goals as goal

pub returns : goal.returns
unfolding ones_of ones head
returns c = rw c.requires.ones (same_at_bytes (λ b. bit_and b (127 / 2 ^ ones b)) head refl c.args.b c.ranges.b.fits)
