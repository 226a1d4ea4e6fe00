-- An alternative: its name, then its discriminant.
use Rattle.format.specs.Bytes.{bytes₂, bytes₄}
use Rattle.meaning.specs.Answer.{cell_head}
use Rattle.writer.proofs.Digits.{hex_then}
use Rattle.answer.specs.Types.{digits}
use Rattle.answer.proofs.DigitsScript.part_head.Goals as goal

pub returns-in_ok-at-in-Union : goal.returns-in_ok-at-in-Union
unfolding digits cell_head
returns-in_ok-at-in-Union c =
    rw c.in-Union.is (hex_then (bytes₂ c.args.p.now.label) (bytes₄ c.args.p.now.key) c.half.ensures c.in_ok-at-in-Union.was c.full.ensures)
