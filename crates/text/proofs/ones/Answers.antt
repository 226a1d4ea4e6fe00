use Rattle.std.proofs.Common.{◌-◌, refl}
use Rattle.std.specs.Int.Count.{count_leading_zeros}
use Rattle.text.specs.Rule.{ones_of, ones}
use Rattle.text.proofs.Bytes.{same_at_bytes}
use Rattle.text.proofs.ones.Goals as goal

pub returns : goal.returns
unfolding count_leading_zeros ones_of ones
returns c = same_at_bytes (λ b. count_leading_zeros 8 (0xff - b)) ones refl c.args.b c.ranges.b.fits
