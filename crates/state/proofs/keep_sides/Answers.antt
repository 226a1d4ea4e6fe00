use Rattle.state.specs.Lines.{sides_w}
use Rattle.state.proofs.keep_sides.Goals as goal

pub returns : goal.returns
unfolding sides_w
returns c = simp (c.put.ensures, c.put_ty-2.ensures, c.put_ty.ensures)
