-- `tree::query_body` meets its contract: the word's two parts; a word is below 2^32, so the end is near.
use mathlib.Core.Path.{refl}
use native.Mathlib.Omega.{arith}
use Rattle.tree.proofs.query_body.Goals as goal

pub returns : goal.returns
returns c = record {
  at = omega (arith, c.wide-start.ensures.0, c.line_place.ensures, c.word-x.ensures);
  end = omega (arith, c.wide-start.ensures.0, c.wide.ensures.0, c.line_place.ensures, c.line_size.ensures, c.word-x.ensures);
  below = refl;
}
