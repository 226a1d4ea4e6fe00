-- Eight zeros, in the order of `counters_w`.
use mathlib.Core.Path.{◌∙◌}
use Rattle.steps.specs.Outside.{counters_w}
use Rattle.steps.proofs.begin_counters.Goals as goal

pub returns : goal.returns
unfolding counters_w
returns c = c.put-8.ensures ∙ rw (c.put-7.ensures, c.put-6.ensures, c.put-5.ensures, c.put-4.ensures, c.put-3.ensures, c.put-2.ensures, c.put.ensures)
