use Rattle.std.proofs.Common.{rules, arith}
use Rattle.admitted.proofs.Passing.{unmarked_all}
use Rattle.admitted.proofs.unmark.Goals as goal

pub returns : goal.returns
returns c = unmarked_all c.requires (omega (arith, c.wide.ensures.0)) (search rules)
