-- From word to word.
use Rattle.std.proofs.Common.{rules, rules, subst}
use Rattle.std.specs.Io.KnownBytes.{Appends}
use Rattle.std.proofs.KnownBytes.{Appends-trans}
use Rattle.input.specs.Gains.{GainsFrontOf}
use Rattle.input.proofs.Gains.{first_gained, second_gained, whole_gained}
use Rattle.sigla_inspect.proofs.Passing.{text_next, text_ends}
use Rattle.sigla_inspect.proofs.bindings.write_words.Goals as goal

pub returns-in_err-write_word : goal.returns-in_err-write_word
returns-in_err-write_word g c =
    let i = c.loop-word.invariant in
    let e = text_next c.loop-word.before c.args.words.now c.loop-word.word-index i.0 _ c.loop-word-test.true i.2 in
    record {
      whole = search rules;
      front = subst (GainsFrontOf _ _) e (first_gained _ _ _ _ (second_gained _ _ _ i.0 _ i.1 c.write_word.ensures.front));
    }

pub loop-word-preserved : goal.loop-word-preserved
loop-word-preserved g c =
    let i = c.loop-word.invariant in
    let e = text_next c.loop-word.before c.args.words.now c.loop-word.word-index i.0 _ c.loop-word-test.true i.2 in
    (_, Appends-trans _ _ _ i.0 _ i.1 c.in_ok-write_word.ensures.whole, rw c.owing-before.ensures e)

pub returns : goal.returns
returns g c =
    let i = c.loop-word.invariant in
    let e = text_ends c.loop-word.before c.args.words.now c.loop-word.word-index i.0 _ c.loop-word-test.false i.2 in
    let all = subst (Appends _ _) e i.1 in
    record { whole = all; front = whole_gained _ _ _ all }
