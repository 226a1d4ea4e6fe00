-- A tag alone, or a number and what stands behind it.
use Rattle.std.proofs.Common.{rules, ◌∙◌, subst}
use Rattle.std.specs.Fmt.{decimal}
use Rattle.std.specs.Io.KnownBytes.{Appends}
use Rattle.input.specs.Gains.{GainsFrontOf}
use Rattle.input.proofs.Gains.{first_gained}
use Rattle.sigla_inspect.specs.Promises.{HandsOver}
use Rattle.sigla_inspect.proofs.Writing.{then_written}
use Rattle.sigla_inspect.proofs.Passing.{tag_word, number_word}
use Rattle.sigla_inspect.proofs.bindings.write_word.Goals as goal

pub returns-in-None : goal.returns-in-None
returns-in-None g c =
    let e = c.as_bytes.ensures.value ∙ c.tag_text.ensures ∙ tag_word c.args.tag c.args.word c.in-None.is in
    subst (HandsOver _ _ c.write.result) e (record { whole = c.write.ensures.whole; front = c.write.ensures.front })

pub returns-in_err-write-in-Some : goal.returns-in_err-write-in-Some
returns-in_err-write-in-Some g c =
    let e = number_word c.args.tag c.in-Some.tag c.args.word c.in-Some.is in
    let digits = c.as_bytes-in-Some.ensures.value ∙ c.format.ensures.text in
    record {
      whole = search rules;
      front = subst (GainsFrontOf _ _) e (first_gained _ _ (decimal c.args.word) _ (subst (GainsFrontOf _ _) digits c.write-in-Some.ensures.front));
    }

pub returns-in_ok-write-in-Some : goal.returns-in_ok-write-in-Some
returns-in_ok-write-in-Some g c =
    let e = number_word c.args.tag c.in-Some.tag c.args.word c.in-Some.is in
    let digits = c.as_bytes-in-Some.ensures.value ∙ c.format.ensures.text in
    let end = c.as_bytes-in-Some-2.ensures.value ∙ c.after_number.ensures in
    subst (HandsOver _ _ c.write-in-Some-2.result) e
    (then_written _ _ (decimal c.args.word) (subst (Appends _ _) digits c.in_ok-write-in-Some.ensures.whole) _ _ _
    (subst (HandsOver _ _ c.write-in-Some-2.result) end
    (record { whole = c.write-in-Some-2.ensures.whole; front = c.write-in-Some-2.ensures.front })))
