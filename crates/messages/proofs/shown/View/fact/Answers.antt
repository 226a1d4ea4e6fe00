-- The predicate's word has its name.
use Rattle.format.specs.Bytes.{ascii}
use Rattle.messages.proofs.Names.{fact_past, fact_shown, fact_bare}
use Rattle.messages.proofs.shown.View.fact.Goals as goal
use Rattle.messages.proofs.shown.View.fact.Goals.{then-p-word+else-x-word, else-p-word}

pub returns-then-x-word : goal.returns-then-x-word
returns-then-x-word c = fact_shown c.word.ensures c.if-p-word.true (rw (c.predicate_name-x.ensures, c.word-then-p-word.ensures, c.wide.ensures.0))
    c.word-then-p-word-2.ensures c.if-x-word.true c.quoted.ensures

pub returns : goal.returns
unfolding ascii
returns c = elim c.if-p-word.branch [
  | then-p-word+else-x-word w ↦ fact_bare c.word.ensures w.if-p-word.true (rw (w.predicate_name-x.ensures, w.word-then-p-word.ensures, w.wide.ensures.0))
      w.word-then-p-word-2.ensures w.if-x-word.false c.text.ensures
  | else-p-word w ↦ fact_past c.word.ensures w.if-p-word.false c.text.ensures
]
