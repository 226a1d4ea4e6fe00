-- The buffer's text is the number's.
use Rattle.std.proofs.Common.{◌^◌, arith, ◌<◌}
use Rattle.messages.proofs.Decimals.{decimal_is}
use Rattle.messages.proofs.shown.number.Goals as goal

pub returns : goal.returns
returns c = let h : c.args.x < 2 ^ 64 = omega arith in rw (c.format.ensures.text, decimal_is c.args.x h) at c.text.ensures
