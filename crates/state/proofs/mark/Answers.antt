-- The tests are those of `mark_w`.
use Rattle.state.specs.Words.{push_w}
use Rattle.state.proofs.Entries.{mark_new, mark_again, mark_own}
use Rattle.state.proofs.mark.Goals as goal
use Rattle.state.proofs.mark.Goals.{else-maker_of-node-via-then-maker_of-node+else-not-is_marked, else-maker_of-node-via-else-maker_of-node}

pub returns-then-not-is_marked : goal.returns-then-not-is_marked
unfolding push_w
returns-then-not-is_marked c =
    mark_new _ _ (rw c.unknown_of.ensures at c.is_marked.ensures) _ (rw c.maker_of.ensures at c.if-maker_of-node.true) c.if-not-is_marked.true
    (rw c.unknown_of-var.ensures at c.push.ensures)

pub returns-else-maker_of-node : goal.returns-else-maker_of-node
returns-else-maker_of-node c = elim c.else-maker_of-node.branch [
  | else-maker_of-node-via-then-maker_of-node+else-not-is_marked w ↦
      mark_again _ _ (rw w.unknown_of.ensures at w.is_marked.ensures) _ (rw c.maker_of.ensures at w.if-maker_of-node.true) w.if-not-is_marked.false
  | else-maker_of-node-via-else-maker_of-node w ↦ mark_own _ _ _ (rw c.maker_of.ensures at w.if-maker_of-node.false)
]
