use mathlib.Core.Bool.{not}
use mathlib.Core.Path.{sym, ap, ◌∙◌}
use Rattle.reading.proofs.Walks.{tell_next, tell_repeats, tell_end}
use Rattle.reading.proofs.parts.keys_distinct.Goals as goal

pub returns-then-has_key : goal.returns-then-has_key
returns-then-has_key g c = sym (ap not (tell_repeats g.K.Keyed.key c.args.parts.now c.loop-i.invariant c.index-parts-i.result c.loop-i-test.true
    (rw (← c.index-parts-i.is, ← c.key.ensures) (sym c.has_key.ensures ∙ c.if-has_key.true))))

pub loop-i-preserved : goal.loop-i-preserved
loop-i-preserved g c = tell_next g.K.Keyed.key c.args.parts.now c.loop-i.invariant c.index-parts-i.result c.loop-i-test.true
    (rw (← c.index-parts-i.is, ← c.key.ensures) (sym c.has_key.ensures ∙ c.if-has_key.false))

pub returns : goal.returns
returns g c = sym (ap not (tell_end g.K.Keyed.key c.args.parts.now c.loop-i.invariant c.loop-i-test.false))
