-- Where the run ended the words have the entry's sides (Stopping.antt).
use Rattle.seek.proofs.Stopping.{side_is, stops, stops_spends}
use Rattle.seek.proofs.sides_at.Goals as goal

pub returns-clause-is : goal.returns-clause-is
returns-clause-is c = stops c.load.ensures c.query.ensures.is (side_is _ 9628 c.from_words-got.ensures c.word.ensures c.word-2.ensures)
    (side_is _ 9630 c.from_words-expected.ensures c.word-3.ensures c.word-4.ensures)

pub returns-clause-spent : goal.returns-clause-spent
returns-clause-spent c = stops_spends c.load.ensures c.query.ensures.is c.query.ensures.pays c.query.ensures.noted
