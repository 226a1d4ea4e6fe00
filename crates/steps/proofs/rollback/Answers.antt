-- The bindings and node types, then the environment, then the marks.
use mathlib.Core.Path.{refl, ◌∙◌}
use Rattle.steps.proofs.rollback.Goals as goal

pub returns : goal.returns
returns c = record { between = _; back = c.rollback.ensures; cut = c.put-2.ensures ∙ rw c.put.ensures refl }
