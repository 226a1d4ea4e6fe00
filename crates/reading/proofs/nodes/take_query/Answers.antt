use mathlib.Core.Path.{refl}
use Rattle.std.proofs.lemmas.Result.{err_from_is_err_and}
use Rattle.reading.proofs.Marking.{told_there, told_missing}
use Rattle.reading.proofs.NodeLines.{query_no_head, query_no_body, query_takes}
use Rattle.reading.proofs.nodes.take_query.Goals as goal

pub returns-in_err-name_node : goal.returns-in_err-name_node
returns-in_err-name_node c =
    let m = told_missing c.in_err-name_node.ensures refl in
    let p = err_from_is_err_and c.from_residual.result c.from_residual.ensures.1 in
    rw (p.1, p.2, m.0) (record { is = λ e. query_no_head e c.args.s.now _ c.args.c _ (rw c.half.ensures.0 at m.1) })

pub returns-in_err-name_statements : goal.returns-in_err-name_statements
returns-in_err-name_statements c =
    let m = told_missing c.in_err-name_statements.ensures refl in
    let n = told_there c.in_ok-name_node.ensures refl in
    let p = err_from_is_err_and c.from_residual-in_err-name_statements.result c.from_residual-in_err-name_statements.ensures.1 in
    rw (p.1, p.2, m.0) (record { is = λ e. query_no_body e c.args.s.now _ c.args.c _ _ (rw c.half.ensures.0 at n) (rw c.past.ensures at m.1) })

pub returns : goal.returns
returns c =
    let m = told_there c.in_ok-name_statements.ensures refl in
    let n = told_there c.in_ok-name_node.ensures refl in
    record { is = λ e. query_takes e c.args.s.now _ c.args.c _ _ (rw c.half.ensures.0 at n) (rw c.past.ensures at m) }
