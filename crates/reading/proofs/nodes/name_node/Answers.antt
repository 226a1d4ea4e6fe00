use mathlib.Core.Path.{refl, sym, ap, ◌∙◌}
use Prim.Native.Nat.{ℕ, ◌+◌, ◌%◌}
use borrow.Author.Tests.{eqb-true, eqb-false}
use lib.ListN.{get_or}
use Rattle.work.specs.Layout.{NODES}
use Rattle.reading.proofs.Marking.{node_none, node_again, node_marks, missing, all_there}
use Rattle.reading.proofs.nodes.name_node.Goals as goal
use Rattle.reading.proofs.nodes.name_node.Goals.{then-nodes-m-via-then-nodes-m, then-nodes-m-via-else-nodes-m+then-is_named}

pub returns-then-nodes-m : goal.returns-then-nodes-m
returns-then-nodes-m c = missing refl (elim c.then-nodes-m.branch [
  | then-nodes-m-via-then-nodes-m w ↦ node_none c.args.w.now c.args.m c.args.nodes w.if-nodes-m.true
  | then-nodes-m-via-else-nodes-m+then-is_named w ↦ node_again c.args.w.now c.args.m c.args.nodes w.if-nodes-m.false
      (rw (c.word-x.ensures, c.wide-at.ensures.0) at (eqb-true (c.word-x.result % 2) 1 (sym w.is_named.ensures ∙ w.if-is_named.true)))
])

pub returns : goal.returns
returns c = all_there (node_marks c.args.w.now c.args.m c.args.nodes c.if-nodes-m.false
    (λ q. eqb-false _ 1 (sym c.is_named.ensures ∙ c.if-is_named.false)
    (ap (λ x. x % 2) (c.word-x.ensures ∙ ap (λ (i : ℕ). get_or c.args.w.now (NODES + i) 0) c.wide-at.ensures.0) ∙ q)) _
    (rw (c.word-x.ensures, c.wide-at.ensures.0) at c.put.ensures))
