-- What the check doesn't find alone: that a measure falls, by `omega arith` of what falls; what a loop keeps; and each way out, by the law of its step.
use borrow.Enum.Refused.{opened}
use native.Mathlib.Omega.{arith}
use mathlib.Core.Path.{refl, sym, ap, ◌∙◌}
use Rattle.cells.specs.Words.{tag_w}
use Rattle.meaning.specs.Check.{form_of}
use Rattle.tree.specs.Nodes.{kind_w}
use Rattle.steps.proofs.Ending.{rejects, brings}
use Rattle.steps.proofs.Besides.{reports}
use Rattle.steps.proofs.Unvisited.{field_falls}
use Rattle.steps.proofs.Forms.{constant_form}
use Rattle.state.proofs.Lefts.{took, took_none, went_on, went_none, succeeded, failed, ended}
use Rattle.state.proofs.Lending.{noted_within, lent_refl, lent_words, lent_then}
use Rattle.state.proofs.Lending.{annotate_within, leave_within, put_field_within}
use Rattle.cells.proofs.Holding.{fresh_keeps}
use Rattle.cells.proofs.Making.{reserve_keeps, new_record_keeps}
use Rattle.checker.proofs.Callees.{notes_by, freshens_by, rolls_by, leaves_by, key_by, key_on, value_on, items_some, item_falls, stmt_falls, alone_falls}
use Rattle.checker.proofs.Callees.{size_small, turn_at, generates_at, mentions_at, checks_at, finds_at, unknown_at}
use Rattle.checker.proofs.Choosing.{later, denied_later, inferred, deny_target, no_disjunction, no_error, record_whole}
use Rattle.checker.proofs.Inferring.{infer_typed, infer_out, int_arm, bytes_arm, str_arm, prefix_arm, error_arm, wildcard_arm, never_arm, variable_arm}
use Rattle.checker.proofs.Arms.{head_arm, head_out, key_head, value_head, select_head, fact_free, fact_on, fact_out, fact_arm, record_arm, subquery_arm}
use Rattle.checker.proofs.Arms.{arith_arm, disjunction_arm, fuzzy_arm}
use Rattle.checker.proofs.Alls.{turn_unified, turn_out, all_start, all_next, all_out, all_end}
use Rattle.checker.proofs.Generating.{branches_start, branches_next, branches_out, branches_end, generator_inferred, generator_branched, generator_out}
use Rattle.checker.proofs.Stating.{only_right_lem, bad_target_lem, bad_target_out, not_yet_lem, not_yet_out, not_yet_stops, destructure_out}
use Rattle.checker.proofs.Stating.{destructure_unified, destructure_right_out, wildcard_noted, wildcard_out, variable_unified, variable_out}
use Rattle.checker.proofs.Bodies.{bind_wildcard_lem, bind_constant, bind_error, bind_later, deny_error, deny_later, bind_apart, bind_whole, bind_variable_lem}
use Rattle.checker.proofs.Bodies.{deny_variable, stmt_visits, stmt_bind, stmt_deny, stmt_compare, stmts_start, stmts_next, stmts_out, stmts_end, subquery_out}
use Rattle.checker.proofs.Bodies.{subquery_head_out, subquery_ends}
use Rattle.checker.proofs.Checking.{unify_out, unify_good, unify_spent, unify_bad, field_out, field_kept, field_rolled}
use Rattle.checker.proofs.Against.{check_nothing, check_wildcard, check_record_lem, check_inferred, record_noted, record_out, record_union, union_arity}
use Rattle.checker.proofs.Against.{union_unknown, union_noted, union_out}
use Rattle.checker.proofs.Mentioning.{mentions_field, mentions_none, fields_start, fields_next, fields_out, fields_end}
use Rattle.checker.proofs.Comparing.{compare_left_out, compare_right_out, compare_types_lem}
use Rattle.checker.proofs.Recording as Recording
use Rattle.checker.proofs.Recording.{record_full, record_start, record_next, record_end}
use Rattle.checker.proofs.+checking.Goals as goal

pub bind-bind_name-requires : goal.bind-bind_name-requires
bind-bind_name-requires t c = omega arith

pub bind-destructure-requires : goal.bind-destructure-requires
bind-destructure-requires t c = omega arith

pub bind-infer-requires : goal.bind-infer-requires
bind-infer-requires t c = omega arith

pub bind-infer-requires-in-Error : goal.bind-infer-requires-in-Error
bind-infer-requires-in-Error t c = omega arith

pub bind-not_yet-requires : goal.bind-not_yet-requires
bind-not_yet-requires t c = omega arith

pub bind-not_yet-requires-in_default : goal.bind-not_yet-requires-in_default
bind-not_yet-requires-in_default t c = omega arith

pub bind-returns-else-destructurable-clause-is : goal.bind-returns-else-destructurable-clause-is
bind-returns-else-destructurable-clause-is t c =
    bind_whole (rw c.in-Record.is at c.node.ensures) (rw c.view.ensures at c.destructurable.ensures) c.if-destructurable.false c.not_yet.ensures.is

pub bind-returns-in-Var-clause-is : goal.bind-returns-in-Var-clause-is
bind-returns-in-Var-clause-is t c = bind_variable_lem (rw c.in-Var.is at c.node.ensures) c.bind_name.ensures.is

pub bind-returns-in_default-clause-is : goal.bind-returns-in_default-clause-is
bind-returns-in_default-clause-is t c = bind_later c.node.ensures (later _ _ ((opened c.in_default.in_default-own.keys6))) c.not_yet-in_default.ensures.is

pub bind-returns-in_err-infer-in-Error-clause-is : goal.bind-returns-in_err-infer-in-Error-clause-is
unfolding kind_w form_of
bind-returns-in_err-infer-in-Error-clause-is t c = rw c.from_residual-in_err-infer-in-Error.ensures
    (rw c.in_err-infer-in-Error.was at (bind_error (rw c.in-Error.is at c.node.ensures) refl (only_right_lem c.infer-in-Error.ensures.is)))

pub bind-returns-in_err-infer-in-Int-clause-is : goal.bind-returns-in_err-infer-in-Int-clause-is
bind-returns-in_err-infer-in-Int-clause-is t c = rw c.from_residual-in_err-infer-in-Int.ensures
    (rw c.in_err-infer-in-Int.was at (bind_constant c.node.ensures (constant_form _ _ c.in-Int.in-Int-own.keys4)
    (bad_target_lem (rejects _ _ _ _ _ c.reject.ensures.is) (went_on c.in_ok-reject-in-Int.was) (rw c.reject.ensures.lent.0 at c.infer-in-Int.ensures.is))))

pub bind-returns-in_err-reject-in-Int-clause-is : goal.bind-returns-in_err-reject-in-Int-clause-is
bind-returns-in_err-reject-in-Int-clause-is t c = rw c.from_residual-in_err-reject-in-Int.ensures
    (bind_constant c.node.ensures (constant_form _ _ c.in-Int.in-Int-own.keys4)
    (bad_target_out (rejects _ _ _ _ _ c.reject.ensures.is) (went_none _ c.in_err-reject-in-Int.was)))

pub bind-returns-in_err-t-in-Wildcard-clause-is : goal.bind-returns-in_err-t-in-Wildcard-clause-is
unfolding kind_w form_of
bind-returns-in_err-t-in-Wildcard-clause-is t c = rw c.from_residual.ensures
    (bind_wildcard_lem (rw c.in-Wildcard.is at c.node.ensures) refl (wildcard_out c.infer.ensures.is (took_none _ c.in_err-t-in-Wildcard.was)))

pub bind-returns-in_ok-infer-in-Error-clause-is : goal.bind-returns-in_ok-infer-in-Error-clause-is
unfolding kind_w form_of
bind-returns-in_ok-infer-in-Error-clause-is t c =
    rw c.in_ok-infer-in-Error.was at (bind_error (rw c.in-Error.is at c.node.ensures) refl (only_right_lem c.infer-in-Error.ensures.is))

pub bind-returns-in_ok-infer-in-Int-clause-is : goal.bind-returns-in_ok-infer-in-Int-clause-is
bind-returns-in_ok-infer-in-Int-clause-is t c = rw c.in_ok-infer-in-Int.was at (bind_constant c.node.ensures (constant_form _ _ c.in-Int.in-Int-own.keys4)
    (bad_target_lem (rejects _ _ _ _ _ c.reject.ensures.is) (went_on c.in_ok-reject-in-Int.was) (rw c.reject.ensures.lent.0 at c.infer-in-Int.ensures.is)))

pub bind-returns-in_ok-t-in-Wildcard-clause-is : goal.bind-returns-in_ok-t-in-Wildcard-clause-is
unfolding kind_w form_of
bind-returns-in_ok-t-in-Wildcard-clause-is t c = bind_wildcard_lem (rw c.in-Wildcard.is at c.node.ensures) refl
    (wildcard_noted c.infer.ensures.is (took c.in_ok-t-in-Wildcard.was) (notes_by c.annotate.ensures))

pub bind-returns-in_ok-t-in-Wildcard-clause-lent : goal.bind-returns-in_ok-t-in-Wildcard-clause-lent
bind-returns-in_ok-t-in-Wildcard-clause-lent t c = lent_then c.infer.ensures.lent (lent_words c.annotate.ensures (annotate_within _ _ _))

pub bind-returns-then-destructurable-clause-is : goal.bind-returns-then-destructurable-clause-is
bind-returns-then-destructurable-clause-is t c =
    bind_apart (rw c.in-Record.is at c.node.ensures) (rw c.view.ensures at c.destructurable.ensures) c.if-destructurable.true c.destructure.ensures.is

pub bind_name-returns-clause-is : goal.bind_name-returns-clause-is
bind_name-returns-clause-is t c = variable_unified (brings _ _ _ _ _ _ _ c.introduce-var.ensures.is) (notes_by c.annotate.ensures)
    (rw (c.introduce-var.ensures.lent.0, c.introduce-var.ensures.out, c.introduce-var.ensures.purse) at c.infer.ensures.is) (took c.in_ok-t.was)
    (rw (c.infer.ensures.lent.0, c.introduce-var.ensures.lent.0) at c.unify_at.ensures.is)

pub bind_name-returns-clause-lent : goal.bind_name-returns-clause-lent
bind_name-returns-clause-lent t c =
    lent_then c.introduce-var.ensures.lent (lent_then (lent_words c.annotate.ensures (annotate_within _ _ _))
    (lent_then c.infer.ensures.lent c.unify_at.ensures.lent))

pub bind_name-returns-in_err-t-clause-is : goal.bind_name-returns-in_err-t-clause-is
bind_name-returns-in_err-t-clause-is t c = rw c.from_residual.ensures
    (variable_out (brings _ _ _ _ _ _ _ c.introduce-var.ensures.is) (notes_by c.annotate.ensures)
    (rw (c.introduce-var.ensures.lent.0, c.introduce-var.ensures.out, c.introduce-var.ensures.purse) at c.infer.ensures.is) (took_none _ c.in_err-t.was))

pub bind_name-returns-in_err-t-clause-lent : goal.bind_name-returns-in_err-t-clause-lent
bind_name-returns-in_err-t-clause-lent t c =
    lent_then c.introduce-var.ensures.lent (lent_then (lent_words c.annotate.ensures (annotate_within _ _ _)) c.infer.ensures.lent)

pub branches-generator-requires : goal.branches-generator-requires
branches-generator-requires t c = omega (arith, item_falls _ _ _ c.requires c.loop-i-test.true c.item_at.ensures)

pub branches-loop-i-init : goal.branches-loop-i-init
branches-loop-i-init t c = (branches_start _ _ _ _, lent_refl)

pub branches-loop-i-preserved : goal.branches-loop-i-preserved
branches-loop-i-preserved t c = (
  branches_next c.loop-i.invariant.0 c.loop-i-test.true
      (generates_at (rw c.loop-i.invariant.1.0 at c.item_at.ensures) (rw c.loop-i.invariant.1.0 at c.generator.ensures.is)) (took c.in_ok-last.was),
  lent_then c.loop-i.invariant.1 c.generator.ensures.lent,
)

pub branches-loop-i-smaller : goal.branches-loop-i-smaller
branches-loop-i-smaller t c = omega arith

pub branches-returns-clause-is : goal.branches-returns-clause-is
branches-returns-clause-is t c = branches_end c.loop-i.invariant.0 c.loop-i-test.false

pub branches-returns-in_err-last-clause-is : goal.branches-returns-in_err-last-clause-is
branches-returns-in_err-last-clause-is t c = rw c.from_residual.ensures
    (branches_out c.loop-i.invariant.0 c.loop-i-test.true
    (generates_at (rw c.loop-i.invariant.1.0 at c.item_at.ensures) (rw c.loop-i.invariant.1.0 at c.generator.ensures.is)) (took_none _ c.in_err-last.was))

pub check-check_fields-requires : goal.check-check_fields-requires
check-check_fields-requires t c = let low = (rw c.in-Record.is at c.node.ensures).lower in (omega (arith, low.below), items_some low)

pub check-check_union-requires : goal.check-check_union-requires
check-check_union-requires t c = (omega arith, (rw c.in-Record.is at c.node.ensures).lower)

pub check-infer_then_unify-requires : goal.check-infer_then_unify-requires
check-infer_then_unify-requires t c = omega arith

pub check-infer_then_unify-requires-in_default-node : goal.check-infer_then_unify-requires-in_default-node
check-infer_then_unify-requires-in_default-node t c = omega arith

pub check-returns-in-Error-clause-is : goal.check-returns-in-Error-clause-is
check-returns-in-Error-clause-is t c = check_nothing (rw c.view.ensures at c.repr-t.ensures) (ap tag_w c.in-Error.is)

pub check-returns-in-Union-clause-is : goal.check-returns-in-Union-clause-is
check-returns-in-Union-clause-is t c = check_record_lem (rw c.view.ensures at c.repr-t.ensures)
    (no_error c.repr-t.result ((opened c.in_default.in_default-own.keys2))) (rw c.in-Record.is at c.node.ensures)
    (rw c.in-Union.is (record_union c.check_union.ensures.is))

pub check-returns-in-Wildcard-clause-is : goal.check-returns-in-Wildcard-clause-is
check-returns-in-Wildcard-clause-is t c = check_wildcard (rw c.view.ensures at c.repr-t.ensures)
    (no_error c.repr-t.result ((opened c.in_default.in_default-own.keys2))) (rw c.in-Wildcard.is at c.node.ensures) (notes_by c.annotate.ensures)

pub check-returns-in-Wildcard-clause-lent : goal.check-returns-in-Wildcard-clause-lent
check-returns-in-Wildcard-clause-lent t c = lent_words c.annotate.ensures (annotate_within _ _ _)

pub check-returns-in_default-node-clause-is : goal.check-returns-in_default-node-clause-is
check-returns-in_default-node-clause-is t c = check_inferred (rw c.view.ensures at c.repr-t.ensures)
    (no_error c.repr-t.result ((opened c.in_default.in_default-own.keys2))) (inferred _ _ ((opened c.in_default-node.in_default-node-own.keys3))) c.node.ensures
    c.infer_then_unify-in_default-node.ensures.is

pub check-returns-in_default-t-clause-is : goal.check-returns-in_default-t-clause-is
check-returns-in_default-t-clause-is t c = check_record_lem (rw c.view.ensures at c.repr-t.ensures)
    (no_error c.repr-t.result ((opened c.in_default.in_default-own.keys2))) (rw c.in-Record.is at c.node.ensures)
    (record_whole c.infer_then_unify.ensures.is ((opened c.in_default-t.in_default-t-own.keys3)))

pub check-returns-in_err-check_fields-in-Record-t-clause-is : goal.check-returns-in_err-check_fields-in-Record-t-clause-is
check-returns-in_err-check_fields-in-Record-t-clause-is t c = rw c.from_residual.ensures
    (check_record_lem (rw c.view.ensures at c.repr-t.ensures) (no_error c.repr-t.result ((opened c.in_default.in_default-own.keys2)))
    (rw c.in-Record.is at c.node.ensures) (rw c.in-Record-t.is (record_out c.check_fields.ensures.is (went_none _ c.in_err-check_fields-in-Record-t.was))))

pub check-returns-in_ok-check_fields-in-Record-t-clause-is : goal.check-returns-in_ok-check_fields-in-Record-t-clause-is
check-returns-in_ok-check_fields-in-Record-t-clause-is t c = check_record_lem (rw c.view.ensures at c.repr-t.ensures)
    (no_error c.repr-t.result ((opened c.in_default.in_default-own.keys2))) (rw c.in-Record.is at c.node.ensures)
    (rw c.in-Record-t.is (record_noted c.check_fields.ensures.is (went_on c.in_ok-check_fields-in-Record-t.was) (notes_by c.annotate-in-Record-t.ensures)))

pub check-returns-in_ok-check_fields-in-Record-t-clause-lent : goal.check-returns-in_ok-check_fields-in-Record-t-clause-lent
check-returns-in_ok-check_fields-in-Record-t-clause-lent t c =
    lent_then c.check_fields.ensures.lent (lent_words c.annotate-in-Record-t.ensures (annotate_within _ _ _))

pub check_field-returns-else-before-word-clause-is : goal.check_field-returns-else-before-word-clause-is
check_field-returns-else-before-word-clause-is t c = mentions_field (rw c.view.ensures at c.find_key.ensures) c.in-Some.is
    (field_kept c.check.ensures.is (went_on c.in_ok-check.was)
    (omega (arith, rw c.view-2.ensures at c.word-before.ensures, rw c.view-4.ensures at c.word.ensures, c.if-before-word.false)))

pub check_field-returns-in_default-clause-is : goal.check_field-returns-in_default-clause-is
check_field-returns-in_default-clause-is t c = mentions_none (rw c.view.ensures at c.find_key.ensures) c.in_default.is (rejects _ _ _ _ _ c.reject.ensures.is)

pub check_field-returns-in_err-check-clause-is : goal.check_field-returns-in_err-check-clause-is
check_field-returns-in_err-check-clause-is t c = rw c.from_residual.ensures
    (mentions_field (rw c.view.ensures at c.find_key.ensures) c.in-Some.is (field_out c.check.ensures.is (went_none _ c.in_err-check.was)))

pub check_field-returns-then-before-word-clause-is : goal.check_field-returns-then-before-word-clause-is
check_field-returns-then-before-word-clause-is t c = mentions_field (rw c.view.ensures at c.find_key.ensures) c.in-Some.is
    (field_rolled c.check.ensures.is (went_on c.in_ok-check.was)
    (omega (arith, rw c.view-2.ensures at c.word-before.ensures, rw c.view-4.ensures at c.word.ensures, c.if-before-word.true))
    (rolls_by (rw c.view-3.ensures at c.snapshot-mark.ensures) c.rollback.ensures))

pub check_fields-check_field-requires : goal.check_fields-check_field-requires
check_fields-check_field-requires t c = omega (arith, field_falls _ _ _ c.requires c.loop-i-test.true c.field_at-e.ensures)

pub check_fields-loop-i-init : goal.check_fields-loop-i-init
check_fields-loop-i-init t c = (fields_start _ _ _ _ _, lent_refl)

pub check_fields-loop-i-preserved : goal.check_fields-loop-i-preserved
check_fields-loop-i-preserved t c = (
  fields_next c.loop-i.invariant.0 c.loop-i-test.true
      (mentions_at (rw c.loop-i.invariant.1.0 at c.field_at-e.ensures) (rw c.loop-i.invariant.1.0 at c.check_field.ensures.is))
      (went_on c.in_ok-check_field.was),
  lent_then c.loop-i.invariant.1 c.check_field.ensures.lent,
)

pub check_fields-loop-i-smaller : goal.check_fields-loop-i-smaller
check_fields-loop-i-smaller t c = omega arith

pub check_fields-returns-clause-is : goal.check_fields-returns-clause-is
check_fields-returns-clause-is t c = fields_end c.loop-i.invariant.0 c.loop-i-test.false

pub check_fields-returns-in_err-check_field-clause-is : goal.check_fields-returns-in_err-check_field-clause-is
check_fields-returns-in_err-check_field-clause-is t c = rw c.from_residual.ensures
    (fields_out c.loop-i.invariant.0 c.loop-i-test.true
    (mentions_at (rw c.loop-i.invariant.1.0 at c.field_at-e.ensures) (rw c.loop-i.invariant.1.0 at c.check_field.ensures.is))
    (went_none _ c.in_err-check_field.was))

pub check_union-check-requires : goal.check_union-check-requires
check_union-check-requires t c =
    omega (arith, c.requires.below, field_falls _ _ _ (items_some c.requires) (omega (arith, c.if-items-ne1.false)) c.field_at-e.ensures)

pub check_union-returns-clause-is : goal.check_union-returns-clause-is
check_union-returns-clause-is t c = union_noted c.if-items-ne1.false (finds_at c.field_at-e.ensures (rw c.view.ensures at c.find_name.ensures)) c.in-Some.is
    (checks_at c.field_at-e.ensures c.check.ensures.is) (went_on c.in_ok-check.was) (notes_by c.annotate.ensures)

pub check_union-returns-clause-lent : goal.check_union-returns-clause-lent
check_union-returns-clause-lent t c = lent_then c.check.ensures.lent (lent_words c.annotate.ensures (annotate_within _ _ _))

pub check_union-returns-in_default-clause-is : goal.check_union-returns-in_default-clause-is
check_union-returns-in_default-clause-is t c = union_unknown c.if-items-ne1.false (finds_at c.field_at-e.ensures (rw c.view.ensures at c.find_name.ensures))
    c.in_default.is (unknown_at c.field_at-e.ensures c.reject-in_default.ensures.is)

pub check_union-returns-in_err-check-clause-is : goal.check_union-returns-in_err-check-clause-is
check_union-returns-in_err-check-clause-is t c = rw c.from_residual.ensures
    (union_out c.if-items-ne1.false (finds_at c.field_at-e.ensures (rw c.view.ensures at c.find_name.ensures)) c.in-Some.is
    (checks_at c.field_at-e.ensures c.check.ensures.is) (went_none _ c.in_err-check.was))

pub check_union-returns-then-items-ne1-clause-is : goal.check_union-returns-then-items-ne1-clause-is
check_union-returns-then-items-ne1-clause-is t c = union_arity c.if-items-ne1.true (rejects _ _ _ _ _ c.reject.ensures.is)

pub compare-returns-clause-is : goal.compare-returns-clause-is
compare-returns-clause-is t c = compare_types_lem ((c.introduce_side.ensures.is.is _).is _)
    (((rw c.introduce_side.ensures.lent.0 at c.introduce_side-2.ensures.is).is _).is _)
    (rw (
      c.introduce_side-2.ensures.lent.0,
      c.introduce_side.ensures.lent.0,
      c.introduce_side-2.ensures.out,
      c.introduce_side.ensures.out,
      c.introduce_side-2.ensures.purse,
      c.introduce_side.ensures.purse,
    ) at c.infer.ensures.is) (took c.in_ok-a.was)
    (rw (c.infer.ensures.lent.0, c.introduce_side-2.ensures.lent.0, c.introduce_side.ensures.lent.0) at c.infer-2.ensures.is) (took c.in_ok-b.was)
    (rw (c.infer-2.ensures.lent.0, c.infer.ensures.lent.0, c.introduce_side-2.ensures.lent.0, c.introduce_side.ensures.lent.0) at c.compare_types.ensures.is)

pub compare-returns-in_err-a-clause-is : goal.compare-returns-in_err-a-clause-is
compare-returns-in_err-a-clause-is t c = rw c.from_residual.ensures
    (compare_left_out ((c.introduce_side.ensures.is.is _).is _) (((rw c.introduce_side.ensures.lent.0 at c.introduce_side-2.ensures.is).is _).is _)
    (rw (
      c.introduce_side-2.ensures.lent.0,
      c.introduce_side.ensures.lent.0,
      c.introduce_side-2.ensures.out,
      c.introduce_side.ensures.out,
      c.introduce_side-2.ensures.purse,
      c.introduce_side.ensures.purse,
    ) at c.infer.ensures.is) (took_none _ c.in_err-a.was))

pub compare-returns-in_err-b-clause-is : goal.compare-returns-in_err-b-clause-is
compare-returns-in_err-b-clause-is t c = rw c.from_residual-in_err-b.ensures
    (compare_right_out ((c.introduce_side.ensures.is.is _).is _) (((rw c.introduce_side.ensures.lent.0 at c.introduce_side-2.ensures.is).is _).is _)
    (rw (
      c.introduce_side-2.ensures.lent.0,
      c.introduce_side.ensures.lent.0,
      c.introduce_side-2.ensures.out,
      c.introduce_side.ensures.out,
      c.introduce_side-2.ensures.purse,
      c.introduce_side.ensures.purse,
    ) at c.infer.ensures.is) (took c.in_ok-a.was)
    (rw (c.infer.ensures.lent.0, c.introduce_side-2.ensures.lent.0, c.introduce_side.ensures.lent.0) at c.infer-2.ensures.is) (took_none _ c.in_err-b.was))

pub deny-bind_name-requires : goal.deny-bind_name-requires
deny-bind_name-requires t c = omega arith

pub deny-infer-requires : goal.deny-infer-requires
deny-infer-requires t c = omega arith

pub deny-infer-requires-in-Error : goal.deny-infer-requires-in-Error
deny-infer-requires-in-Error t c = omega arith

pub deny-not_yet-requires : goal.deny-not_yet-requires
deny-not_yet-requires t c = omega arith

pub deny-returns-in-Var-clause-is : goal.deny-returns-in-Var-clause-is
deny-returns-in-Var-clause-is t c = deny_variable (rw c.in-Var.is at c.node.ensures) c.bind_name.ensures.is

pub deny-returns-in_default-clause-is : goal.deny-returns-in_default-clause-is
deny-returns-in_default-clause-is t c = deny_later c.node.ensures (denied_later _ _ ((opened c.in_default.in_default-own.keys4))) c.not_yet.ensures.is

pub deny-returns-in_err-infer-in-Error-clause-is : goal.deny-returns-in_err-infer-in-Error-clause-is
unfolding kind_w form_of
deny-returns-in_err-infer-in-Error-clause-is t c = rw c.from_residual-in_err-infer-in-Error.ensures
    (rw c.in_err-infer-in-Error.was at (deny_error (rw c.in-Error.is at c.node.ensures) refl (only_right_lem c.infer-in-Error.ensures.is)))

pub deny-returns-in_err-infer-in-Wildcard-clause-is : goal.deny-returns-in_err-infer-in-Wildcard-clause-is
deny-returns-in_err-infer-in-Wildcard-clause-is t c = rw c.from_residual-in_err-infer-in-Wildcard.ensures
    (rw c.in_err-infer-in-Wildcard.was at (deny_target c.in-Wildcard.in-Wildcard-own.keys2 c.node.ensures
    (bad_target_lem (rejects _ _ _ _ _ c.reject.ensures.is) (went_on c.in_ok-reject-in-Wildcard.was) (rw c.reject.ensures.lent.0 at c.infer.ensures.is))))

pub deny-returns-in_err-reject-in-Wildcard-clause-is : goal.deny-returns-in_err-reject-in-Wildcard-clause-is
deny-returns-in_err-reject-in-Wildcard-clause-is t c = rw c.from_residual.ensures
    (deny_target c.in-Wildcard.in-Wildcard-own.keys2 c.node.ensures
    (bad_target_out (rejects _ _ _ _ _ c.reject.ensures.is) (went_none _ c.in_err-reject-in-Wildcard.was)))

pub deny-returns-in_ok-infer-in-Error-clause-is : goal.deny-returns-in_ok-infer-in-Error-clause-is
unfolding kind_w form_of
deny-returns-in_ok-infer-in-Error-clause-is t c =
    rw c.in_ok-infer-in-Error.was at (deny_error (rw c.in-Error.is at c.node.ensures) refl (only_right_lem c.infer-in-Error.ensures.is))

pub deny-returns-in_ok-infer-in-Wildcard-clause-is : goal.deny-returns-in_ok-infer-in-Wildcard-clause-is
deny-returns-in_ok-infer-in-Wildcard-clause-is t c = rw c.in_ok-infer-in-Wildcard.was at (deny_target c.in-Wildcard.in-Wildcard-own.keys2 c.node.ensures
    (bad_target_lem (rejects _ _ _ _ _ c.reject.ensures.is) (went_on c.in_ok-reject-in-Wildcard.was) (rw c.reject.ensures.lent.0 at c.infer.ensures.is)))

pub destructure-returns-clause-is : goal.destructure-returns-clause-is
destructure-returns-clause-is t c = destructure_unified c.infer.ensures.is (took c.in_ok-pattern.was) (rw c.infer.ensures.lent.0 at c.infer-2.ensures.is)
    (took c.in_ok-value.was) (rw (c.infer-2.ensures.lent.0, c.infer.ensures.lent.0) at c.unify_at.ensures.is)

pub destructure-returns-in_err-pattern-clause-is : goal.destructure-returns-in_err-pattern-clause-is
destructure-returns-in_err-pattern-clause-is t c = rw c.from_residual.ensures (destructure_out c.infer.ensures.is (took_none _ c.in_err-pattern.was))

pub destructure-returns-in_err-value-clause-is : goal.destructure-returns-in_err-value-clause-is
destructure-returns-in_err-value-clause-is t c = rw c.from_residual-in_err-value.ensures
    (destructure_right_out c.infer.ensures.is (took c.in_ok-pattern.was) (rw c.infer.ensures.lent.0 at c.infer-2.ensures.is) (took_none _ c.in_err-value.was))

pub fact-returns-clause-is : goal.fact-returns-clause-is
fact-returns-clause-is t c = fact_on (key_by (rw c.view.ensures at c.key_ty.ensures)) c.in-Some.is c.check.ensures.is (went_on c.in_ok-check.was)

pub fact-returns-in_default-clause-is : goal.fact-returns-in_default-clause-is
fact-returns-in_default-clause-is t c = fact_free (key_by (rw c.view.ensures at c.key_ty.ensures)) c.in_default.is

pub fact-returns-in_err-check-clause-is : goal.fact-returns-in_err-check-clause-is
fact-returns-in_err-check-clause-is t c =
    rw c.from_residual.ensures (fact_out (key_by (rw c.view.ensures at c.key_ty.ensures)) c.in-Some.is c.check.ensures.is (went_none _ c.in_err-check.was))

pub generator-branches-requires : goal.generator-branches-requires
generator-branches-requires t c = let low = (rw c.in-Disjunction.is at c.node.ensures).lower in (omega (arith, low.below), items_some low)

pub generator-infer-requires : goal.generator-infer-requires
generator-infer-requires t c = omega arith

pub generator-returns-in_default-clause-is : goal.generator-returns-in_default-clause-is
generator-returns-in_default-clause-is t c = generator_inferred c.node.ensures (no_disjunction ((opened c.in_default.in_default-own.keys2))) c.infer.ensures.is

pub generator-returns-in_err-t-in-Disjunction-clause-is : goal.generator-returns-in_err-t-in-Disjunction-clause-is
generator-returns-in_err-t-in-Disjunction-clause-is t c =
    rw c.from_residual.ensures (generator_out (rw c.in-Disjunction.is at c.node.ensures) c.branches.ensures.is (took_none _ c.in_err-t-in-Disjunction.was))

pub generator-returns-in_ok-t-in-Disjunction-clause-is : goal.generator-returns-in_ok-t-in-Disjunction-clause-is
generator-returns-in_ok-t-in-Disjunction-clause-is t c =
    generator_branched (rw c.in-Disjunction.is at c.node.ensures) c.branches.ensures.is (took c.in_ok-t-in-Disjunction.was) (notes_by c.annotate.ensures)

pub generator-returns-in_ok-t-in-Disjunction-clause-lent : goal.generator-returns-in_ok-t-in-Disjunction-clause-lent
generator-returns-in_ok-t-in-Disjunction-clause-lent t c = lent_then c.branches.ensures.lent (lent_words c.annotate.ensures (annotate_within _ _ _))

pub infer-returns-clause-is : goal.infer-returns-clause-is
infer-returns-clause-is t c = infer_typed c.infer_kind.ensures.is (took c.in_ok-t.was) (notes_by c.annotate.ensures)

pub infer-returns-clause-lent : goal.infer-returns-clause-lent
infer-returns-clause-lent t c = lent_then c.infer_kind.ensures.lent (lent_words c.annotate.ensures (annotate_within _ _ _))

pub infer-returns-in_err-t-clause-is : goal.infer-returns-in_err-t-clause-is
infer-returns-in_err-t-clause-is t c = rw c.from_residual.ensures (infer_out c.infer_kind.ensures.is (took_none _ c.in_err-t.was))

pub infer_all-infer-requires : goal.infer_all-infer-requires
infer_all-infer-requires t c = omega (arith, item_falls _ _ _ c.requires c.loop-i-test.true c.item_at-e.ensures)

pub infer_all-loop-i-init : goal.infer_all-loop-i-init
infer_all-loop-i-init t c = (all_start _ _ _ _ _, lent_refl)

pub infer_all-loop-i-preserved : goal.infer_all-loop-i-preserved
infer_all-loop-i-preserved t c = (
  all_next c.loop-i.invariant.0 c.loop-i-test.true
      (turn_at (rw c.loop-i.invariant.1.0 at c.item_at-e.ensures)
      (turn_unified (rw c.loop-i.invariant.1.0 at c.infer.ensures.is) (took c.in_ok-t.was)
      (rw (c.infer.ensures.lent.0, c.loop-i.invariant.1.0) at c.unify_at.ensures.is))) (went_on c.in_ok-unify_at.was),
  lent_then (lent_then c.loop-i.invariant.1 c.infer.ensures.lent) c.unify_at.ensures.lent,
)

pub infer_all-loop-i-smaller : goal.infer_all-loop-i-smaller
infer_all-loop-i-smaller t c = omega arith

pub infer_all-returns-clause-is : goal.infer_all-returns-clause-is
infer_all-returns-clause-is t c = all_end c.loop-i.invariant.0 c.loop-i-test.false

pub infer_all-returns-in_err-t-clause-is : goal.infer_all-returns-in_err-t-clause-is
infer_all-returns-in_err-t-clause-is t c = rw c.from_residual.ensures
    (all_out c.loop-i.invariant.0 c.loop-i-test.true
    (turn_at (rw c.loop-i.invariant.1.0 at c.item_at-e.ensures) (turn_out (rw c.loop-i.invariant.1.0 at c.infer.ensures.is) (took_none _ c.in_err-t.was))) refl)

pub infer_all-returns-in_err-unify_at-clause-is : goal.infer_all-returns-in_err-unify_at-clause-is
infer_all-returns-in_err-unify_at-clause-is t c = rw c.from_residual-in_err-unify_at.ensures
    (all_out c.loop-i.invariant.0 c.loop-i-test.true
    (turn_at (rw c.loop-i.invariant.1.0 at c.item_at-e.ensures)
    (turn_unified (rw c.loop-i.invariant.1.0 at c.infer.ensures.is) (took c.in_ok-t.was)
    (rw (c.infer.ensures.lent.0, c.loop-i.invariant.1.0) at c.unify_at.ensures.is))) (went_none _ c.in_err-unify_at.was))

pub infer_kind-fact-requires : goal.infer_kind-fact-requires
infer_kind-fact-requires t c = omega (arith, (rw (c.view.ensures, c.in-Fact.is) at c.node_at.ensures).lower)

pub infer_kind-infer-requires : goal.infer_kind-infer-requires
infer_kind-infer-requires t c = omega (arith, (rw (c.view.ensures, c.in-Key.is) at c.node_at.ensures).lower)

pub infer_kind-infer-requires-in-Select : goal.infer_kind-infer-requires-in-Select
infer_kind-infer-requires-in-Select t c = omega (arith, (rw (c.view.ensures, c.in-Select.is) at c.node_at.ensures).lower)

pub infer_kind-infer-requires-in-Value : goal.infer_kind-infer-requires-in-Value
infer_kind-infer-requires-in-Value t c = omega (arith, (rw (c.view.ensures, c.in-Value.is) at c.node_at.ensures).lower)

pub infer_kind-infer_all-requires : goal.infer_kind-infer_all-requires
infer_kind-infer_all-requires t c = let low = (rw (c.view.ensures, c.in-Arith.is) at c.node_at.ensures).lower in (omega (arith, low.below), items_some low)

pub infer_kind-infer_all-requires-in-Disjunction : goal.infer_kind-infer_all-requires-in-Disjunction
infer_kind-infer_all-requires-in-Disjunction t c =
    let low = (rw (c.view.ensures, c.in-Disjunction.is) at c.node_at.ensures).lower in (omega (arith, low.below), items_some low)

pub infer_kind-infer_record-requires : goal.infer_kind-infer_record-requires
infer_kind-infer_record-requires t c = let low = (rw (c.view.ensures, c.in-Record.is) at c.node_at.ensures).lower in (omega (arith, low.below), items_some low)

pub infer_kind-returns-in-Arith-clause-is : goal.infer_kind-returns-in-Arith-clause-is
infer_kind-returns-in-Arith-clause-is t c = arith_arm (rw (c.view.ensures, c.in-Arith.is) at c.node_at.ensures) c.infer_all.ensures.is

pub infer_kind-returns-in-Bytes-clause-is : goal.infer_kind-returns-in-Bytes-clause-is
infer_kind-returns-in-Bytes-clause-is t c = bytes_arm (rw (c.view.ensures, c.in-Bytes.is) at c.node_at.ensures)

pub infer_kind-returns-in-Disjunction-clause-is : goal.infer_kind-returns-in-Disjunction-clause-is
infer_kind-returns-in-Disjunction-clause-is t c = disjunction_arm (freshens_by c.fresh_var_id-in-Disjunction.ensures)
    (rw (c.view.ensures, c.in-Disjunction.is) at c.node_at.ensures) c.infer_all-in-Disjunction.ensures.is

pub infer_kind-returns-in-Disjunction-clause-lent : goal.infer_kind-returns-in-Disjunction-clause-lent
infer_kind-returns-in-Disjunction-clause-lent t c =
    lent_then (lent_words c.fresh_var_id-in-Disjunction.ensures.1 (fresh_keeps _)) c.infer_all-in-Disjunction.ensures.lent

pub infer_kind-returns-in-Error-clause-is : goal.infer_kind-returns-in-Error-clause-is
infer_kind-returns-in-Error-clause-is t c = error_arm (rw (c.view.ensures, c.in-Error.is) at c.node_at.ensures)

pub infer_kind-returns-in-Fact-clause-is : goal.infer_kind-returns-in-Fact-clause-is
infer_kind-returns-in-Fact-clause-is t c = fact_arm (rw (c.view.ensures, c.in-Fact.is) at c.node_at.ensures) c.fact.ensures.is

pub infer_kind-returns-in-Fuzzy-clause-is : goal.infer_kind-returns-in-Fuzzy-clause-is
infer_kind-returns-in-Fuzzy-clause-is t c = fuzzy_arm (rw (c.view.ensures, c.in-Fuzzy.is) at c.node_at.ensures) c.fuzzy.ensures.is

pub infer_kind-returns-in-Int-clause-is : goal.infer_kind-returns-in-Int-clause-is
infer_kind-returns-in-Int-clause-is t c = int_arm (rw (c.view.ensures, c.in-Int.is) at c.node_at.ensures)

pub infer_kind-returns-in-Never-clause-is : goal.infer_kind-returns-in-Never-clause-is
infer_kind-returns-in-Never-clause-is t c = never_arm (freshens_by c.fresh_var_id-in-Never.ensures) (rw (c.view.ensures, c.in-Never.is) at c.node_at.ensures)

pub infer_kind-returns-in-Never-clause-lent : goal.infer_kind-returns-in-Never-clause-lent
infer_kind-returns-in-Never-clause-lent t c = lent_words c.fresh_var_id-in-Never.ensures.1 (fresh_keeps _)

pub infer_kind-returns-in-Prefix-clause-is : goal.infer_kind-returns-in-Prefix-clause-is
infer_kind-returns-in-Prefix-clause-is t c = prefix_arm (rw (c.view.ensures, c.in-Prefix.is) at c.node_at.ensures)

pub infer_kind-returns-in-Record-clause-is : goal.infer_kind-returns-in-Record-clause-is
infer_kind-returns-in-Record-clause-is t c = record_arm (rw (c.view.ensures, c.in-Record.is) at c.node_at.ensures) c.infer_record.ensures.is

pub infer_kind-returns-in-Str-clause-is : goal.infer_kind-returns-in-Str-clause-is
infer_kind-returns-in-Str-clause-is t c = str_arm (rw (c.view.ensures, c.in-Str.is) at c.node_at.ensures)

pub infer_kind-returns-in-Subquery-clause-is : goal.infer_kind-returns-in-Subquery-clause-is
infer_kind-returns-in-Subquery-clause-is t c = subquery_arm (rw (c.view.ensures, c.in-Subquery.is) at c.node_at.ensures) c.subquery.ensures.is

pub infer_kind-returns-in-Var-clause-is : goal.infer_kind-returns-in-Var-clause-is
infer_kind-returns-in-Var-clause-is t c = rw (c.introduce.ensures.out, c.introduce.ensures.purse)
    (variable_arm (brings _ _ _ _ _ _ _ c.introduce.ensures.is) (rw (c.view.ensures, c.in-Var.is) at c.node_at.ensures))

pub infer_kind-returns-in-Wildcard-clause-is : goal.infer_kind-returns-in-Wildcard-clause-is
infer_kind-returns-in-Wildcard-clause-is t c = wildcard_arm (freshens_by c.fresh_var_id.ensures) (rw (c.view.ensures, c.in-Wildcard.is) at c.node_at.ensures)

pub infer_kind-returns-in-Wildcard-clause-lent : goal.infer_kind-returns-in-Wildcard-clause-lent
infer_kind-returns-in-Wildcard-clause-lent t c = lent_words c.fresh_var_id.ensures.1 (fresh_keeps _)

pub infer_kind-returns-in_err-t-in-Key-clause-is : goal.infer_kind-returns-in_err-t-in-Key-clause-is
infer_kind-returns-in_err-t-in-Key-clause-is t c = rw c.from_residual.ensures
    (head_out key_head (rw (c.view.ensures, c.in-Key.is) at c.node_at.ensures) c.infer.ensures.is (took_none _ c.in_err-t-in-Key.was))

pub infer_kind-returns-in_err-t-in-Select-clause-is : goal.infer_kind-returns-in_err-t-in-Select-clause-is
infer_kind-returns-in_err-t-in-Select-clause-is t c = rw c.from_residual-in_err-t-in-Select.ensures
    (head_out select_head (rw (c.view.ensures, c.in-Select.is) at c.node_at.ensures) c.infer-in-Select.ensures.is (took_none _ c.in_err-t-in-Select.was))

pub infer_kind-returns-in_err-t-in-Value-clause-is : goal.infer_kind-returns-in_err-t-in-Value-clause-is
infer_kind-returns-in_err-t-in-Value-clause-is t c = rw c.from_residual-in_err-t-in-Value.ensures
    (head_out value_head (rw (c.view.ensures, c.in-Value.is) at c.node_at.ensures) c.infer-in-Value.ensures.is (took_none _ c.in_err-t-in-Value.was))

pub infer_kind-returns-in_ok-t-in-Key-clause-is : goal.infer_kind-returns-in_ok-t-in-Key-clause-is
infer_kind-returns-in_ok-t-in-Key-clause-is t c = head_arm key_head (rw (c.view.ensures, c.in-Key.is) at c.node_at.ensures) c.infer.ensures.is
    (took c.in_ok-t-in-Key.was) (rw c.view-in-Key.ensures at c.repr-u.ensures) (key_on _ (rw c.infer.ensures.lent.0 at c.key_of.ensures.is))

pub infer_kind-returns-in_ok-t-in-Select-clause-is : goal.infer_kind-returns-in_ok-t-in-Select-clause-is
infer_kind-returns-in_ok-t-in-Select-clause-is t c = head_arm select_head (rw (c.view.ensures, c.in-Select.is) at c.node_at.ensures)
    c.infer-in-Select.ensures.is (took c.in_ok-t-in-Select.was) (rw c.view-in-Select.ensures at c.repr-u-in-Select.ensures)
    (rw c.infer-in-Select.ensures.lent.0 at c.select_of.ensures.is)

pub infer_kind-returns-in_ok-t-in-Value-clause-is : goal.infer_kind-returns-in_ok-t-in-Value-clause-is
infer_kind-returns-in_ok-t-in-Value-clause-is t c = head_arm value_head (rw (c.view.ensures, c.in-Value.is) at c.node_at.ensures) c.infer-in-Value.ensures.is
    (took c.in_ok-t-in-Value.was) (rw c.view-in-Value.ensures at c.repr-u-in-Value.ensures)
    (value_on (rw c.infer-in-Value.ensures.lent.0 at c.value_of.ensures.is))

pub infer_kind-subquery-requires : goal.infer_kind-subquery-requires
infer_kind-subquery-requires t c =
    let low = (rw (c.view.ensures, c.in-Subquery.is) at c.node_at.ensures).lower in (omega (arith, low.1), omega (arith, low.0, low.1))

pub infer_record-infer-requires : goal.infer_record-infer-requires
infer_record-infer-requires t c = omega (arith, field_falls _ _ _ c.requires c.loop-i-test.true c.field_at-e.ensures)

pub infer_record-loop-i-init : goal.infer_record-loop-i-init
infer_record-loop-i-init t c = (record_start _ _ _ _ _, lent_refl)

pub infer_record-loop-i-preserved : goal.infer_record-loop-i-preserved
infer_record-loop-i-preserved t c = (
  record_next c.loop-i.invariant.0 c.loop-i-test.true (rw c.loop-i.invariant.1.0 at c.field_at-e.ensures) (rw c.loop-i.invariant.1.0 at c.infer.ensures.is)
      (took c.in_ok-t.was) c.put_field.ensures,
  lent_then c.loop-i.invariant.1 (lent_then c.infer.ensures.lent (lent_words c.put_field.ensures (put_field_within _ _ _ _))),
)

pub infer_record-loop-i-smaller : goal.infer_record-loop-i-smaller
infer_record-loop-i-smaller t c = omega arith

pub infer_record-overflow_add-from : goal.infer_record-overflow_add-from
infer_record-overflow_add-from t c = omega arith

pub infer_record-returns-clause-is : goal.infer_record-returns-clause-is
infer_record-returns-clause-is t c =
    record_end c.loop-i.invariant.0 c.reserve-from.ensures.0 c.reserve-from.ensures.1 c.loop-i-test.false c.new_record.ensures.0 c.new_record.ensures.1

pub infer_record-returns-clause-lent : goal.infer_record-returns-clause-lent
infer_record-returns-clause-lent t c =
    lent_then (lent_words c.reserve-from.ensures.1 (reserve_keeps _ _))
    (lent_then c.loop-i.invariant.1 (lent_words c.new_record.ensures.1 (new_record_keeps _ _ _)))

pub infer_record-returns-in_err-t-clause-is : goal.infer_record-returns-in_err-t-clause-is
infer_record-returns-in_err-t-clause-is t c = rw c.from_residual.ensures
    (Recording.record_out c.loop-i.invariant.0 c.loop-i-test.true (rw c.loop-i.invariant.1.0 at c.field_at-e.ensures)
    (rw c.loop-i.invariant.1.0 at c.infer.ensures.is) c.reserve-from.ensures.0 c.reserve-from.ensures.1 (took_none _ c.in_err-t.was))

pub infer_record-returns-in_err-t-clause-lent : goal.infer_record-returns-in_err-t-clause-lent
infer_record-returns-in_err-t-clause-lent t c =
    lent_then (lent_words c.reserve-from.ensures.1 (reserve_keeps _ _)) (lent_then c.loop-i.invariant.1 c.infer.ensures.lent)

pub infer_record-returns-then-from-gt-RECORD_FIELDS-clause-is : goal.infer_record-returns-then-from-gt-RECORD_FIELDS-clause-is
infer_record-returns-then-from-gt-RECORD_FIELDS-clause-is t c = record_full c.reserve-from.ensures.0 (omega arith)

pub infer_record-returns-then-from-gt-RECORD_FIELDS-clause-lent : goal.infer_record-returns-then-from-gt-RECORD_FIELDS-clause-lent
infer_record-returns-then-from-gt-RECORD_FIELDS-clause-lent t c =
    lent_then (lent_words c.reserve-from.ensures.1 (reserve_keeps _ _)) (lent_words c.put.ensures (noted_within _ _))

pub infer_then_unify-returns-in-Err-clause-is : goal.infer_then_unify-returns-in-Err-clause-is
infer_then_unify-returns-in-Err-clause-is t c = unify_bad c.infer.ensures.is (took c.in_ok-t.was) (c.unify_outside.ensures.is.is _ _)
    (failed c.in_ok-unify_outside.was _ c.in-Err.is) (rolls_by (rw c.view.ensures at c.snapshot-at.ensures) c.rollback.ensures)
    (rw (c.unify_outside.ensures.lent.0, c.infer.ensures.lent.0, c.unify_outside.ensures.out) at (reports _ _ _ _ _ c.report.ensures.is))

pub infer_then_unify-returns-in-Ok-clause-is : goal.infer_then_unify-returns-in-Ok-clause-is
infer_then_unify-returns-in-Ok-clause-is t c = rw c.unify_outside.ensures.out
    (unify_good c.infer.ensures.is (took c.in_ok-t.was) (c.unify_outside.ensures.is.is _ _) (succeeded c.in_ok-unify_outside.was c.in-Ok.is))

pub infer_then_unify-returns-in_err-unify_outside-clause-is : goal.infer_then_unify-returns-in_err-unify_outside-clause-is
infer_then_unify-returns-in_err-unify_outside-clause-is t c = rw (c.from_residual-in_err-unify_outside.ensures, c.unify_outside.ensures.out)
    (unify_spent c.infer.ensures.is (took c.in_ok-t.was) (c.unify_outside.ensures.is.is _ _) (ended _ c.in_err-unify_outside.was))

pub infer_then_unify-returns-in_err-t-clause-is : goal.infer_then_unify-returns-in_err-t-clause-is
infer_then_unify-returns-in_err-t-clause-is t c = rw c.from_residual.ensures (unify_out c.infer.ensures.is (took_none _ c.in_err-t.was))

pub not_yet-infer-requires : goal.not_yet-infer-requires
not_yet-infer-requires t c = omega arith

pub not_yet-returns-clause-is : goal.not_yet-returns-clause-is
not_yet-returns-clause-is t c = rw c.in_ok-infer-2.was at (not_yet_lem (rejects _ _ _ _ _ c.reject.ensures.is) (went_on c.in_ok-reject.was)
    (rw c.reject.ensures.lent.0 at c.infer.ensures.is) (took c.in_ok-infer.was) (rw (c.infer.ensures.lent.0, c.reject.ensures.lent.0) at c.infer-2.ensures.is))

pub not_yet-returns-in_err-infer-2-clause-is : goal.not_yet-returns-in_err-infer-2-clause-is
not_yet-returns-in_err-infer-2-clause-is t c = rw c.from_residual-in_err-infer-2.ensures
    (rw c.in_err-infer-2.was at (not_yet_lem (rejects _ _ _ _ _ c.reject.ensures.is) (went_on c.in_ok-reject.was)
    (rw c.reject.ensures.lent.0 at c.infer.ensures.is) (took c.in_ok-infer.was) (rw (c.infer.ensures.lent.0, c.reject.ensures.lent.0) at c.infer-2.ensures.is)))

pub not_yet-returns-in_err-infer-clause-is : goal.not_yet-returns-in_err-infer-clause-is
not_yet-returns-in_err-infer-clause-is t c = rw c.from_residual-in_err-infer.ensures
    (not_yet_out (rejects _ _ _ _ _ c.reject.ensures.is) (went_on c.in_ok-reject.was) (rw c.reject.ensures.lent.0 at c.infer.ensures.is)
    (took_none _ c.in_err-infer.was))

pub not_yet-returns-in_err-reject-clause-is : goal.not_yet-returns-in_err-reject-clause-is
not_yet-returns-in_err-reject-clause-is t c =
    rw c.from_residual.ensures (not_yet_stops (rejects _ _ _ _ _ c.reject.ensures.is) (went_none _ c.in_err-reject.was))

pub stmt-bind-requires : goal.stmt-bind-requires
stmt-bind-requires t c = let low = stmt_falls _ _ c.requires.0 c.stmt_at.ensures c.in-Bind.is in omega (arith, low.0, low.1)

pub stmt-compare-requires : goal.stmt-compare-requires
stmt-compare-requires t c = let low = stmt_falls _ _ c.requires.0 c.stmt_at.ensures c.in-Compare.is in omega (arith, low.0, low.1)

pub stmt-deny-requires : goal.stmt-deny-requires
stmt-deny-requires t c = let low = stmt_falls _ _ c.requires.0 c.stmt_at.ensures c.in-Deny.is in omega (arith, low.0, low.1)

pub stmt-generator-requires : goal.stmt-generator-requires
stmt-generator-requires t c = omega (arith, alone_falls _ _ c.requires.0 c.stmt_at.ensures c.in-Implicit.is)

pub stmt-returns-in-Bind-clause-is : goal.stmt-returns-in-Bind-clause-is
stmt-returns-in-Bind-clause-is t c = stmt_bind (sym c.stmt_at.ensures ∙ c.in-Bind.is) c.bind.ensures.is

pub stmt-returns-in-Compare-clause-is : goal.stmt-returns-in-Compare-clause-is
stmt-returns-in-Compare-clause-is t c = stmt_compare (sym c.stmt_at.ensures ∙ c.in-Compare.is) c.compare.ensures.is

pub stmt-returns-in-Deny-clause-is : goal.stmt-returns-in-Deny-clause-is
stmt-returns-in-Deny-clause-is t c = stmt_deny (sym c.stmt_at.ensures ∙ c.in-Deny.is) c.deny.ensures.is

pub stmt-returns-in_err-generator-in-Implicit-clause-is : goal.stmt-returns-in_err-generator-in-Implicit-clause-is
stmt-returns-in_err-generator-in-Implicit-clause-is t c =
    rw c.from_residual.ensures (rw c.in_err-generator-in-Implicit.was at (stmt_visits c.stmt_at.ensures c.in-Implicit.is c.generator.ensures.is))

pub stmt-returns-in_ok-generator-in-Implicit-clause-is : goal.stmt-returns-in_ok-generator-in-Implicit-clause-is
stmt-returns-in_ok-generator-in-Implicit-clause-is t c =
    rw c.in_ok-generator-in-Implicit.was at (stmt_visits c.stmt_at.ensures c.in-Implicit.is c.generator.ensures.is)

pub stmt-stmt_at-requires : goal.stmt-stmt_at-requires
stmt-stmt_at-requires t c = c.requires.1

pub stmts-loop-at-init : goal.stmts-loop-at-init
stmts-loop-at-init t c = (stmts_start _ _ _ _, lent_refl)

pub stmts-loop-at-preserved : goal.stmts-loop-at-preserved
stmts-loop-at-preserved t c = (
  rw (c.stmt_size-at.ensures, c.stmt.ensures.lent.0, c.loop-at.invariant.1.0)
      (stmts_next c.loop-at.invariant.0 c.loop-at-test.true (rw c.loop-at.invariant.1.0 at c.stmt.ensures.is) (went_on c.in_ok-stmt.was)),
  lent_then c.loop-at.invariant.1 c.stmt.ensures.lent,
)

pub stmts-loop-at-smaller : goal.stmts-loop-at-smaller
stmts-loop-at-smaller t c = omega (arith, c.loop-at-test.true, (size_small _ _ c.stmt_size-at.ensures).0)

pub stmts-overflow_add-at : goal.stmts-overflow_add-at
stmts-overflow_add-at t c = omega (arith, c.args.body.near, c.loop-at-test.true, (size_small _ _ c.stmt_size-at.ensures).1)

pub stmts-returns-clause-is : goal.stmts-returns-clause-is
stmts-returns-clause-is t c = stmts_end c.loop-at.invariant.0 c.loop-at-test.false

pub stmts-returns-in_err-stmt-clause-is : goal.stmts-returns-in_err-stmt-clause-is
stmts-returns-in_err-stmt-clause-is t c = rw c.from_residual.ensures
    (stmts_out c.loop-at.invariant.0 c.loop-at-test.true (rw c.loop-at.invariant.1.0 at c.stmt.ensures.is) (went_none _ c.in_err-stmt.was))

pub stmts-stmt_size-at-requires : goal.stmts-stmt_size-at-requires
stmts-stmt_size-at-requires t c = omega (arith, c.args.body.near, c.loop-at-test.true)

pub subquery-returns-clause-is : goal.subquery-returns-clause-is
subquery-returns-clause-is t c = subquery_ends c.stmts.ensures.is (went_on c.in_ok-stmts.was) (rw c.stmts.ensures.lent.0 at c.infer.ensures.is)
    (took c.in_ok-t.was) (rw c.view.ensures at c.word-scope.ensures) (leaves_by c.leave.ensures)

pub subquery-returns-clause-lent : goal.subquery-returns-clause-lent
subquery-returns-clause-lent t c =
    lent_then c.stmts.ensures.lent (lent_then c.infer.ensures.lent (lent_words c.leave.ensures (leave_within _ _)))

pub subquery-returns-in_err-stmts-clause-is : goal.subquery-returns-in_err-stmts-clause-is
subquery-returns-in_err-stmts-clause-is t c = rw c.from_residual.ensures (subquery_out c.stmts.ensures.is (went_none _ c.in_err-stmts.was))

pub subquery-returns-in_err-t-clause-is : goal.subquery-returns-in_err-t-clause-is
subquery-returns-in_err-t-clause-is t c = rw c.from_residual-in_err-t.ensures
    (subquery_head_out c.stmts.ensures.is (went_on c.in_ok-stmts.was) (rw c.stmts.ensures.lent.0 at c.infer.ensures.is) (took_none _ c.in_err-t.was))
