-- The node's two words stand for none or for a type.
use Rattle.answer.proofs.Resolving.{in_digits}
use Rattle.answer.proofs.Noding.{slot_none, slot_some}
use Rattle.answer.proofs.slot.Goals as goal

pub returns-in-None : goal.returns-in-None
returns-in-None c = slot_none (rw (← c.wide.ensures.0, ← c.slot.ensures) c.in-None.is) c.byte.ensures

pub returns-in-Some : goal.returns-in-Some
returns-in-Some c = slot_some c.in-Some.t (rw (← c.wide.ensures.0, ← c.slot.ensures) c.in-Some.is) (in_digits c.ty.ensures)
