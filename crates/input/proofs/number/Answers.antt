use Rattle.std.proofs.Common.{◌∙◌, arith}
use Rattle.input.proofs.Numbers.{no_text, text_is, plus_none, parsed}
use Rattle.input.proofs.number.Goals as goal

pub returns-in_err-text : goal.returns-in_err-text
returns-in_err-text c = c.from_residual.ensures ∙ no_text _ _ _ c.from_utf8.ensures.cases c.in_err-text.ensures.value

pub returns-then-starts_with : goal.returns-then-starts_with
returns-then-starts_with c =
    plus_none _ (text_is _ _ _ c.from_utf8.ensures.cases c.in_ok-text.ensures.value) (c.if-starts_with.ensures.byte (omega arith) (omega arith) (λ w o f. f))

pub returns : goal.returns
returns c =
    c.ok-2.ensures.value
    ∙ parsed _ (text_is _ _ _ c.from_utf8.ensures.cases c.in_ok-text.ensures.value) c.parse.result c.parse.ensures.value.0
    (c.if-starts_with.ensures.byte (omega arith) (omega arith) (λ w o f. f))
