-- The lines of the nodes behind those of the diagnostics; then the blocks change places.
use Rattle.std.proofs.Common.{◌++◌, drop, ap, ⊎_elim, rules}
use Rattle.answer.proofs.Answering.{answer_over, answer_past, answer_full, answer_exchanged}
use Rattle.answer.proofs.lines.Goals as goal

pub returns-then-word-ne0 : goal.returns-then-word-ne0
returns-then-word-ne0 c = ⊎_elim (answer_over c.word.ensures) (λ e. answer_past c.word.ensures e.0 c.place-at.ensures e.1) c.then-word-ne0.either

pub returns-in_err-end : goal.returns-in_err-end
returns-in_err-end c = rw c.from_residual.ensures (answer_full c.word.ensures c.if-word-ne0.false c.place-at.ensures c.node_lines.ensures c.in_err-end.was)

pub returns : goal.returns
returns c = answer_exchanged c.word.ensures c.if-word-ne0.false c.place-at.ensures c.node_lines.ensures c.in_ok-end.was (search rules)
    (ap (λ l. l ++ drop c.in_ok-end.end c.node_lines.new.out) c.exchange.ensures)
