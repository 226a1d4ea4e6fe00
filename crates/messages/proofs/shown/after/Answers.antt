-- By the kind.
use Rattle.format.specs.Bytes.{ascii}
use Rattle.meaning.specs.Messages.{decimal}
use Rattle.messages.proofs.Showing.{text_none, text_then, text_full}
use Rattle.messages.proofs.shown.after.Goals as goal

pub returns-in-Fields : goal.returns-in-Fields
returns-in-Fields c = rw c.in-Fields.is text_none

pub returns-in_err-at-in-Alternatives : goal.returns-in_err-at-in-Alternatives
unfolding ascii
returns-in_err-at-in-Alternatives c =
    rw (c.from_residual.ensures, c.in-Alternatives.is) (text_full c.text.ensures c.in_err-at-in-Alternatives.was (decimal c.args.key))

pub returns-in_ok-at-in-Alternatives : goal.returns-in_ok-at-in-Alternatives
unfolding ascii
returns-in_ok-at-in-Alternatives c = rw c.in-Alternatives.is (text_then c.text.ensures c.in_ok-at-in-Alternatives.was c.number.ensures)
