-- The nodes that the items passed name are there, and marked.
use Rattle.reading.proofs.Going.{ItemsGoing}
use Rattle.reading.proofs.nodes.name_items.Given as goal

abbrev pub invariant-loop-item : goal.invariant-loop-item
invariant-loop-item l = ItemsGoing l.items l.initial.w l.nodes l.item-index l.w
