use Rattle.std.proofs.Common.{◌≡◌, ap, ◌∙◌, arith}
use Rattle.plain.specs.Tokens.{behind}
use Rattle.plain.proofs.Tokens.{behind_none}
use Rattle.plain.proofs.Passes.{behind_few, behind_word, behind_two, behind_broken}
use Rattle.plain.proofs.behind.Goals as goal

pub returns-then-rest-owes : goal.returns-then-rest-owes
returns-then-rest-owes c = c.loop-owes.invariant ∙ behind_few _ _ c.if-rest-owes.true

pub loop-owes-preserved-then-is_short : goal.loop-owes-preserved-then-is_short
loop-owes-preserved-then-is_short c = c.loop-owes.invariant ∙ behind_word c.loop-owes-test.true c.in_ok-a.ensures.cases.0 c.if-is_short.ensures

pub returns-in_err-b : goal.returns-in_err-b
returns-in_err-b c = rw c.from_residual-in_err-b.ensures
    (c.loop-owes.invariant ∙ behind_broken c.loop-owes-test.true c.in_ok-a.ensures.cases.0 c.if-is_short.ensures c.in_err-b.ensures.cases)

pub loop-owes-preserved : goal.loop-owes-preserved
loop-owes-preserved c = c.loop-owes.invariant
    ∙ behind_two c.loop-owes-test.true c.in_ok-a.ensures.cases.0 c.if-is_short.ensures c.in_ok-b.ensures.cases.0 c.owed_by.ensures.0

pub returns : goal.returns
returns c = let none : c.loop-owes.owes ≡ 0 = omega arith in c.loop-owes.invariant ∙ ap (behind c.loop-owes.rest.now) none ∙ behind_none _
