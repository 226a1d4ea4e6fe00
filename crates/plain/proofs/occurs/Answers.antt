use Rattle.std.proofs.Common.{sym, ◌∙◌}
use Rattle.plain.proofs.Passes.{seek_short, seek_found, seek_past, seek_last}
use Rattle.plain.proofs.occurs.Goals as goal

pub loop-rest-preserved-then-is_short : goal.loop-rest-preserved-then-is_short
loop-rest-preserved-then-is_short c = c.loop-rest.invariant ∙ seek_short c.args.x _ c.in-len2-up.len_at_least c.if-is_short.ensures

pub returns-then-is_unknown : goal.returns-then-is_unknown
returns-then-is_unknown c = sym (c.loop-rest.invariant ∙ seek_found c.args.x _ c.in-len2-up.len_at_least c.if-is_short.ensures c.if-is_unknown.ensures)

pub loop-rest-preserved : goal.loop-rest-preserved
loop-rest-preserved c = c.loop-rest.invariant ∙ seek_past c.args.x _ c.in-len2-up.len_at_least c.if-is_short.ensures c.if-is_unknown.ensures

pub returns : goal.returns
returns c = sym (c.loop-rest.invariant ∙ seek_last c.args.x _ c.in_default.len_below)
