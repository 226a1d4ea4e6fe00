use Rattle.std.proofs.Common.{rules}
use Rattle.steps.proofs.Starting.{untyped_all}
use Rattle.steps.proofs.begin_types.Goals as goal

pub returns : goal.returns
returns c = untyped_all c.args.w.now c.min-end.ensures c.min-from.ensures (search rules)
