use mathlib.Core.Path.{refl}
use Rattle.std.proofs.lemmas.Result.{err_from_is_err_and}
use Rattle.reading.proofs.Marking.{told_there, told_missing, missing, all_there}
use Rattle.reading.proofs.Going.{fields_start, fields_end, fields_no_name, fields_no_node, fields_next}
use Rattle.reading.proofs.nodes.name_fields.Goals as goal

pub loop-field-init : goal.loop-field-init
loop-field-init c = fields_start c.args.fields.now c.args.w.now c.args.names c.args.nodes

pub returns-in_err-check_name : goal.returns-in_err-check_name
returns-in_err-check_name c =
    let m = told_missing c.in_err-check_name.ensures refl in
    let p = err_from_is_err_and c.from_residual.result c.from_residual.ensures.1 in
    rw (p.1, p.2) (missing m.0 (fields_no_name c.args.fields.now c.args.w.now c.args.names c.args.nodes c.loop-field.invariant c.loop-field-test.true
    (rw c.half.ensures.0 at m.1)))

pub returns-in_err-name_node : goal.returns-in_err-name_node
returns-in_err-name_node c =
    let m = told_missing c.in_err-name_node.ensures refl in
    let n = told_there c.in_ok-check_name.ensures refl in
    let p = err_from_is_err_and c.from_residual-in_err-name_node.result c.from_residual-in_err-name_node.ensures.1 in
    rw (p.1, p.2) (missing m.0 (fields_no_node c.args.fields.now c.args.w.now c.args.names c.args.nodes c.loop-field.invariant c.loop-field-test.true
    (rw c.half.ensures.0 at n) _ (rw c.half-in-loop-field.ensures.0 at m.1)))

pub loop-field-preserved : goal.loop-field-preserved
loop-field-preserved c =
    let m = told_there c.in_ok-name_node.ensures refl in
    let n = told_there c.in_ok-check_name.ensures refl in
    fields_next c.args.fields.now c.args.w.now c.args.names c.args.nodes c.loop-field.invariant c.loop-field-test.true
    (rw c.half.ensures.0 at n) _ (rw c.half-in-loop-field.ensures.0 at m)

pub returns : goal.returns
returns c = all_there (fields_end c.args.fields.now c.args.w.now c.args.names c.args.nodes c.loop-field.invariant c.loop-field-test.false)
