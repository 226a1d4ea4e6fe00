-- What a node names is lower, so the node falls, and on one node the number that a measure adds ranks the calls. Each
-- arm is a law of its own.
use Prim.Native.Nat.{◌+◌, ◌-◌, ◌*◌}
use Rattle.checker.proofs.Alls.{AllGoing}
use Rattle.checker.proofs.Generating.{BranchesGoing}
use Rattle.checker.proofs.Bodies.{StmtsGoing}
use Rattle.checker.proofs.Mentioning.{FieldsGoing}
use Rattle.checker.proofs.Recording.{RecordGoing}
use Rattle.state.specs.Running.{Lent}
use Rattle.checker.proofs.+checking.Given as goal

abbrev pub decreases-bind : goal.decreases-bind
decreases-bind l = 16 * (l.lhs + (l.rhs - l.lhs)) + 6

abbrev pub decreases-bind_name : goal.decreases-bind_name
decreases-bind_name l = 16 * (l.lhs + (l.rhs - l.lhs)) + 5

abbrev pub decreases-branches : goal.decreases-branches
decreases-branches l = 16 * l.items.below

abbrev pub decreases-check : goal.decreases-check
decreases-check l = 16 * l.n + 8

abbrev pub decreases-check_field : goal.decreases-check_field
decreases-check_field l = 16 * l.value + 9

abbrev pub decreases-check_fields : goal.decreases-check_fields
decreases-check_fields l = 16 * l.items.below

abbrev pub decreases-check_union : goal.decreases-check_union
decreases-check_union l = 16 * l.n + 6

abbrev pub decreases-compare : goal.decreases-compare
decreases-compare l = 16 * (l.lhs + (l.rhs - l.lhs)) + 6

abbrev pub decreases-deny : goal.decreases-deny
decreases-deny l = 16 * (l.lhs + (l.rhs - l.lhs)) + 6

abbrev pub decreases-destructure : goal.decreases-destructure
decreases-destructure l = 16 * (l.lhs + (l.rhs - l.lhs)) + 5

abbrev pub decreases-fact : goal.decreases-fact
decreases-fact l = 16 * l.key + 9

abbrev pub decreases-generator : goal.decreases-generator
decreases-generator l = 16 * l.n + 5

abbrev pub decreases-infer : goal.decreases-infer
decreases-infer l = 16 * l.n + 4

abbrev pub decreases-infer_all : goal.decreases-infer_all
decreases-infer_all l = 16 * l.items.below

abbrev pub decreases-infer_kind : goal.decreases-infer_kind
decreases-infer_kind l = 16 * l.n + 3

abbrev pub decreases-infer_record : goal.decreases-infer_record
decreases-infer_record l = 16 * l.items.below

abbrev pub decreases-infer_then_unify : goal.decreases-infer_then_unify
decreases-infer_then_unify l = 16 * l.n + 5

abbrev pub decreases-not_yet : goal.decreases-not_yet
decreases-not_yet l = 16 * (l.lhs + (l.rhs - l.lhs)) + 5

abbrev pub decreases-stmt : goal.decreases-stmt
decreases-stmt l = 16 * l.below

abbrev pub decreases-stmts : goal.decreases-stmts
decreases-stmts l = 16 * l.body.below + 1

abbrev pub decreases-subquery : goal.decreases-subquery
decreases-subquery l = 16 * l.body.below + 2

abbrev pub invariant-branches-loop-i : goal.invariant-branches-loop-i
invariant-branches-loop-i l = BranchesGoing l.initial.run.file.now l.initial.run.words.now l.initial.run.out.now l.items l.initial.run.purse.now.left l.run.words.now
    l.run.out.now l.last l.i l.run.purse.now.left × Lent l.initial.run l.run

abbrev pub invariant-check_fields-loop-i : goal.invariant-check_fields-loop-i
invariant-check_fields-loop-i l = FieldsGoing l.initial.run.file.now l.initial.run.words.now l.initial.run.out.now l.items l.c l.initial.run.purse.now.left
    l.run.words.now l.run.out.now l.i l.run.purse.now.left × Lent l.initial.run l.run

abbrev pub invariant-infer_all-loop-i : goal.invariant-infer_all-loop-i
invariant-infer_all-loop-i l = AllGoing l.initial.run.file.now l.initial.run.words.now l.initial.run.out.now l.items l.with l.initial.run.purse.now.left l.run.words.now
    l.run.out.now l.i l.run.purse.now.left × Lent l.initial.run l.run

abbrev pub invariant-infer_record-loop-i : goal.invariant-infer_record-loop-i
invariant-infer_record-loop-i l = RecordGoing l.initial.run.file.now l.initial.run.words.now l.initial.run.out.now l.items l.initial.run.purse.now.left l.from
    l.run.words.now l.run.out.now l.i l.run.purse.now.left × Lent l.initial.run l.run

abbrev pub invariant-stmts-loop-at : goal.invariant-stmts-loop-at
invariant-stmts-loop-at l = StmtsGoing l.initial.run.file.now l.initial.run.words.now l.initial.run.out.now l.fn.body l.initial.run.purse.now.left l.run.words.now
    l.run.out.now l.at l.run.purse.now.left × Lent l.initial.run l.run

abbrev pub decreases-stmts-loop-at : goal.decreases-stmts-loop-at
decreases-stmts-loop-at l = l.end - l.at
