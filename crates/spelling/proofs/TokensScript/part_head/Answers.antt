use Rattle.plain_theory.specs.Words.{head_spelled}
use Rattle.writer.proofs.Writing.{writes_then}
use Rattle.spelling.specs.Tokens.{tokens}
use Rattle.spelling.proofs.TokensScript.part_head.Goals as goal

pub returns-in_ok-at-in-Union : goal.returns-in_ok-at-in-Union
unfolding tokens head_spelled
returns-in_ok-at-in-Union c = rw c.in-Union.is (writes_then c.two.ensures c.in_ok-at-in-Union.was c.two-in-Union.ensures)
