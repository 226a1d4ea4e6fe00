use mathlib.Core.Bool.{not}
use mathlib.Core.List.{[]}
use mathlib.Core.Path.{refl, sym, ap, ◌∙◌}
use Rattle.frames.specs.Promises.{half_w}
use Rattle.reading.proofs.Walks.{tell_next, tell_repeats, tell_end, seen_start, seen_next}
use Rattle.reading.proofs.parts.names_distinct.Goals as goal

pub loop-bytes-init : goal.loop-bytes-init
loop-bytes-init c = record { telling = refl; seen = seen_start _ }

pub returns-then-seen-name : goal.returns-then-seen-name
returns-then-seen-name c = sym (ap not (tell_repeats (λ p. half_w p 0) c.args.fields.now c.loop-bytes.invariant.telling [] c.loop-bytes-test.true
    (rw (← (c.wide-name.ensures.0 ∙ c.half.ensures.0)) (sym (c.loop-bytes.invariant.seen.is _ c.if-name-ge256.false) ∙ c.if-seen-name.true))))

pub loop-bytes-preserved : goal.loop-bytes-preserved
loop-bytes-preserved c = record {
  telling = tell_next (λ p. half_w p 0) c.args.fields.now c.loop-bytes.invariant.telling [] c.loop-bytes-test.true
      (rw (← (c.wide-name.ensures.0 ∙ c.half.ensures.0)) (sym (c.loop-bytes.invariant.seen.is _ c.if-name-ge256.false) ∙ c.if-seen-name.false));
  seen = seen_next c.loop-bytes.invariant.seen _ (c.wide-name.ensures.0 ∙ c.half.ensures.0) c.if-name-ge256.false c.loop-bytes-test.true;
}

pub returns : goal.returns
returns c = sym (ap not (tell_end (λ p. half_w p 0) c.args.fields.now c.loop-bytes.invariant.telling c.loop-bytes-test.false))
