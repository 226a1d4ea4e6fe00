use Rattle.plain.proofs.Stepping.{bound_same, bound_occurs, bound_free}
use Rattle.plain.proofs.bound.Goals as goal

pub returns-then-eq : goal.returns-then-eq
returns-then-eq c = bound_same _ c.args.ty c.args.rest _ c.unknown.ensures c.if-eq.ensures

pub returns-then-occurs : goal.returns-then-occurs
returns-then-occurs c = bound_occurs _ c.args.ty c.args.rest _ c.unknown.ensures c.if-eq.ensures c.if-occurs.ensures

pub returns-else-occurs : goal.returns-else-occurs
returns-else-occurs c = bound_free _ c.args.ty c.args.rest _ c.unknown.ensures c.if-eq.ensures c.if-occurs.ensures
