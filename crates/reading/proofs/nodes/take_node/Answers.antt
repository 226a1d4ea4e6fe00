use mathlib.Core.Path.{refl}
use Rattle.std.proofs.lemmas.Result.{err_from_is_err_and}
use Rattle.reading.proofs.Marking.{told_there, told_missing}
use Rattle.reading.proofs.NodeLines.{node_bad, node_takes}
use Rattle.reading.proofs.nodes.take_node.Goals as goal

pub returns-in_err-name_all : goal.returns-in_err-name_all
returns-in_err-name_all c =
    let m = told_missing c.in_err-name_all.ensures refl in
    let p = err_from_is_err_and c.from_residual.result c.from_residual.ensures.1 in
    rw (p.1, p.2, m.0) (node_bad _ _ c.args.line.bytes.now _ c.args.c _ m.1)

pub returns : goal.returns
returns c =
    node_takes _ _ c.args.line.bytes.now _ c.args.c _ (told_there c.in_ok-name_all.ensures refl) _ (rw (c.wide.ensures.0, c.node_word.ensures) at c.put.ensures)
