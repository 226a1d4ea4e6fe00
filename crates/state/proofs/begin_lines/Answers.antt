use Rattle.state.proofs.begin_lines.Goals as goal

pub returns : goal.returns
returns c = simp (c.put-5.ensures, c.put-4.ensures, c.put-3.ensures, c.put-2.ensures, c.put.ensures, c.until_word.ensures)
