-- `tree::hex_byte` meets its contract: the test is `digits_w`'s own, and each digit is below 17.
use native.Mathlib.Omega.{arith}
use mathlib.Core.Path.{sym}
use Rattle.sigla_hex.proofs.Bytes.{digits_past, digits_there}
use Rattle.tree.proofs.hex_byte.Goals as goal

pub returns-then-f-j : goal.returns-then-f-j
returns-then-f-j c = (sym (digits_past _ _ c.if-f-j.true), omega arith)

pub returns : goal.returns
returns c = (cc (c.digit.ensures.0, c.digit-2.ensures.0, digits_there _ c.args.i c.if-f-j.false), omega (arith, c.digit.ensures.1, c.digit-2.ensures.1))
