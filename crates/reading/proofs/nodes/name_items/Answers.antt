use mathlib.Core.Path.{refl}
use Rattle.std.proofs.lemmas.Result.{err_from_is_err_and}
use Rattle.reading.proofs.Marking.{told_there, told_missing, missing, all_there}
use Rattle.reading.proofs.Going.{items_start, items_end, items_no_node, items_next}
use Rattle.reading.proofs.nodes.name_items.Goals as goal

pub loop-item-init : goal.loop-item-init
loop-item-init c = items_start c.args.items.now c.args.w.now c.args.nodes

pub returns-in_err-name_node : goal.returns-in_err-name_node
returns-in_err-name_node c =
    let m = told_missing c.in_err-name_node.ensures refl in
    let p = err_from_is_err_and c.from_residual.result c.from_residual.ensures.1 in
    rw (p.1, p.2) (missing m.0 (items_no_node c.args.items.now c.args.w.now c.args.nodes c.loop-item.invariant c.loop-item-test.true _
    (rw c.half.ensures.0 at m.1)))

pub loop-item-preserved : goal.loop-item-preserved
loop-item-preserved c =
    let m = told_there c.in_ok-name_node.ensures refl in
    items_next c.args.items.now c.args.w.now c.args.nodes c.loop-item.invariant c.loop-item-test.true _ (rw c.half.ensures.0 at m)

pub returns : goal.returns
returns c = all_there (items_end c.args.items.now c.args.w.now c.args.nodes c.loop-item.invariant c.loop-item-test.false)
