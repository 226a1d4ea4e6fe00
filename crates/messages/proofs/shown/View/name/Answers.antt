-- The word has where the line starts.
use Rattle.messages.proofs.Names.{name_shown, name_marked}
use Rattle.messages.proofs.shown.View.name.Goals as goal

pub returns-then-x-word : goal.returns-then-x-word
returns-then-x-word c = name_shown c.word.ensures c.if-x-word.true
    (rw (c.wide-then-x-word.ensures.0, c.name_place-place.ensures, c.word-then-x-word.ensures, c.wide.ensures.0)) (rw c.line.ensures at c.copy.ensures)

pub returns : goal.returns
returns c = name_marked c.word.ensures c.if-x-word.false c.text.ensures
