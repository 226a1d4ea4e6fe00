-- The name and the mark of each kind.
use Rattle.format.specs.Bytes.{ascii}
use Rattle.messages.proofs.Showing.{shows_text, shows_then, shows_full}
use Rattle.messages.proofs.shown.View.before.Goals as goal
use Rattle.messages.proofs.shown.View.before.Goals.{in-Fields, in-Alternatives}

pub returns-in_err-at : goal.returns-in_err-at
unfolding ascii
returns-in_err-at c = rw c.from_residual.ensures (elim c.match-k.branch [
  | in-Fields w ↦ rw w.in-Fields.is (let n = rw w.name-is at c.name.ensures in shows_full n c.in_err-at.was (λ v. ascii " = "))
  | in-Alternatives w ↦ rw w.in-Alternatives.is (let n = rw w.name-is at c.name.ensures in shows_full n c.in_err-at.was (λ v. ascii " : "))
])

pub returns : goal.returns
unfolding ascii
returns c = elim c.match-k.branch [
  | in-Fields w ↦ rw w.in-Fields.is (let n = rw w.name-is at c.name.ensures in let m = rw w.name-is at c.text.ensures in shows_then n c.in_ok-at.was
      (shows_text m))
  | in-Alternatives w ↦ rw w.in-Alternatives.is
      (let n = rw w.name-is at c.name.ensures in let m = rw w.name-is at c.text.ensures in shows_then n c.in_ok-at.was (shows_text m))
]
