use Rattle.state.proofs.set_place.Goals as goal

pub returns : goal.returns
returns c = simp (c.put-2.ensures, c.put.ensures)
