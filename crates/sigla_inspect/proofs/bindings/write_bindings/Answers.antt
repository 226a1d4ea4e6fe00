-- The first mark of an unknown, the words behind the first tag, and the last line's end.
use Rattle.std.proofs.Common.{rules, subst}
use Rattle.std.specs.Prelude.{codes}
use Rattle.std.proofs.KnownBytes.{Appends-trans}
use Rattle.input.specs.Gains.{GainsFrontOf}
use Rattle.input.proofs.Gains.{first_gained, second_gained}
use Rattle.sigla_inspect.specs.Promises.{HandsOver}
use Rattle.sigla_inspect.proofs.Writing.{then_written}
use Rattle.sigla_inspect.proofs.Passing.{none_bound, some_bound, mark_gained}
use Rattle.sigla_inspect.proofs.bindings.write_bindings.Goals as goal

pub returns-in_default : goal.returns-in_default
returns-in_default g c bs e = none_bound _ c.args.words.now bs e c.in_default.len_below

pub returns-in_err-write : goal.returns-in_err-write
returns-in_err-write g c bs e =
    record { whole = search rules; front = mark_gained _ _ c.args.words.now bs e c.in-len1-up.len_at_least c.write.ensures.front }

pub returns-in_err-write_words : goal.returns-in_err-write_words
returns-in_err-write_words g c bs e =
    let text = some_bound c.args.words.now bs e c.in-len1-up.len_at_least in
    record {
      whole = search rules;
      front = subst (GainsFrontOf _ _) text
          (first_gained _ _ _ _ (second_gained _ _ _ (codes "?") _ c.in_ok-write.ensures.whole c.write_words.ensures.front));
    }

pub returns : goal.returns
returns g c bs e =
    let text = some_bound c.args.words.now bs e c.in-len1-up.len_at_least in
    subst (HandsOver _ _ c.write-2.result) text
    (then_written _ _ _ (Appends-trans _ _ _ (codes "?") _ c.in_ok-write.ensures.whole c.in_ok-write_words.ensures.whole) _ _ _
    (record { whole = c.write-2.ensures.whole; front = c.write-2.ensures.front }))
