use Rattle.state.proofs.begin_entries.Goals as goal

pub returns : goal.returns
returns c = simp (c.put-2.ensures, c.put.ensures, c.stop_word.ensures)
