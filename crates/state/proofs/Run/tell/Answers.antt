-- A line that fits moves the place; one that does not is noted.
use Rattle.state.proofs.Lining.{told, no_room, was_full}
use Rattle.state.proofs.Run.tell.Goals as goal

pub returns-in-Some-clause-is : goal.returns-in-Some-clause-is
returns-in-Some-clause-is c = told c.word.ensures c.if-word-eq0.true c.place-at.ensures c.line.ensures c.in-Some.is c.set_place.ensures

pub returns-in-None-clause-is : goal.returns-in-None-clause-is
returns-in-None-clause-is c = no_room c.word.ensures c.if-word-eq0.true c.place-at.ensures c.line.ensures c.in-None.is c.put.ensures

pub returns-else-word-eq0-clause-is : goal.returns-else-word-eq0-clause-is
returns-else-word-eq0-clause-is c = was_full c.word.ensures c.if-word-eq0.false
