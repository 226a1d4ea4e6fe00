use borrow.Author.Rules.{rules}
use Rattle.state.specs.Lines.{at_end, at_diagnostic, at_entry}
use Rattle.state.proofs.until_in.Goals as goal

pub returns-in-1 : goal.returns-in-1
returns-in-1 c = at_diagnostic (rw c.word.ensures at c.in-1.is)

pub returns-in-2 : goal.returns-in-2
returns-in-2 c = rw c.word-in-2.ensures (at_entry (rw c.word.ensures at c.in-2.is) (search rules))

pub returns-in_default : goal.returns-in_default
returns-in_default c = at_end (search rules) (search rules)
