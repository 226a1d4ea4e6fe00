-- `tree::hex_half` meets its contract: two bytes, as `half_at` joins them.
use native.Mathlib.Omega.{arith}
use Rattle.sigla_hex.specs.Digits.{half_at}
use Rattle.tree.proofs.hex_half.Goals as goal

pub returns : goal.returns
unfolding half_at
returns c = (cc (c.hex_byte.ensures.0, c.hex_byte-2.ensures.0), omega (arith, c.hex_byte.ensures.1, c.hex_byte-2.ensures.1))
