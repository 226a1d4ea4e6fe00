-- By what was found (Answering.antt).
use mathlib.Core.Path.{ap, ◌∙◌}
use Rattle.std.specs.Prelude.{Ok}
use Rattle.inspect.proofs.Answering.{solved, none_there, refused}
use Rattle.inspect.proofs.answer.Goals as goal

pub returns-in-Ok-Some-clause-is : goal.returns-in-Ok-Some-clause-is
returns-in-Ok-Some-clause-is c = solved c.seek.ensures.is _ (c.in-Ok-Some.is ∙ ap Ok c.in-Ok-Some.field-0-is) c.solve.ensures c.from.ensures

pub returns-in-Ok-None-clause-is : goal.returns-in-Ok-None-clause-is
returns-in-Ok-None-clause-is c = none_there c.seek.ensures.is _ c.clear.ensures (c.in-Ok-None.is ∙ ap Ok c.in-Ok-None.field-0-is)

pub returns-in-Err-clause-is : goal.returns-in-Err-clause-is
returns-in-Err-clause-is c = refused c.seek.ensures.is _ c.clear-in-Err.ensures c.in-Err.is
