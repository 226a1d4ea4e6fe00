use Rattle.std.proofs.Common.{◌≡◌, Err, Ok, None, ok_or, rules, arith, refl, sym, ap, ◌∙◌}
use Rattle.unification.proofs.Tests.{clash}
use Rattle.cells.specs.declared.Failure.TheVariants as Failure
use Rattle.cells.specs.declared.UnionDiff.TheVariants as UnionDiff
use Rattle.cells.specs.declared.Part.{Part}
use Rattle.cells.proofs.Heads.{error_var, var_error, error_else, else_error, var_same, var_else, else_var, shapes, record_record, union_union, shapes_same}
use Rattle.cells.proofs.Heads.{shapes_differ, unify_none, unify_enter}
use Rattle.cells.proofs.Steps.{settled_errors, next_again, next_new, next_fails}
use Rattle.cells.proofs.Parts.{place_here, place_none}
use Rattle.cells.proofs.Records.{record_same, record_differs, fields_start, fields_unknown, fields_next, fields_stop, fields_end}
use Rattle.cells.proofs.Passed.{passed_start, passed_later, passed_keeps, passed_next}
use Rattle.cells.proofs.Unions.{in_payload, in_expected, in_found, renamed, union_start, union_nowhere, union_next, union_payload, union_stop, union_end}
use Rattle.unify.proofs.+unifying.Goals as goal
use Rattle.unify.proofs.+unifying.Goals.{unify_heads-in-Error-Var, unify_heads-in-Error-Var-2}

pub unify_sides-returns : goal.unify_sides-returns
unify_sides-returns t c = unify_enter (grind arith) c.repr-a.ensures c.repr-b.ensures c.unify_heads.ensures

pub unify_sides-returns-in_err-rest : goal.unify_sides-returns-in_err-rest
unify_sides-returns-in_err-rest t c =
    let none : c.spend.result ≡ None = grind arith in
    let out : c.from_residual.result ≡ None = grind arith in
    let spent : ok_or c.from_residual.result c.spend.new.why ≡ Err Failure.Spent = rw out (rw none at c.spend.ensures.why) in
    rw spent (unify_none (grind arith))

pub unify_heads-returns-in-Error-Var : goal.unify_heads-returns-in-Error-Var
unify_heads-returns-in-Error-Var t c = elim c.in-Error-Var-1.branch [
  | unify_heads-in-Error-Var w ↦ error_var w.in-Error-Var.field-0-1 _ c.set_var.new.w w.in-Error-Var.is-0 w.in-Error-Var.is-1 (search rules) c.set_var.ensures
  | unify_heads-in-Error-Var-2 w ↦ var_error w.in-Error-Var.field-0-0 _ c.set_var.new.w w.in-Error-Var.is-0 w.in-Error-Var.is-1 (search rules) c.set_var.ensures
]

pub unify_heads-returns-in-Error-default : goal.unify_heads-returns-in-Error-default
unify_heads-returns-in-Error-default t c = error_else c.in-Error-default.is-0 (λ x q. search rules)

pub unify_heads-returns-in-Error-default-2 : goal.unify_heads-returns-in-Error-default-2
unify_heads-returns-in-Error-default-2 t c = error_else c.in-Error-default.is-0 (λ x q. search rules)

pub unify_heads-returns-in-Error-default-3 : goal.unify_heads-returns-in-Error-default-3
unify_heads-returns-in-Error-default-3 t c = else_error c.in-Error-default.is-1 (λ x q. search rules)

pub unify_heads-returns-in-Var-Var : goal.unify_heads-returns-in-Var-Var
unify_heads-returns-in-Var-Var t c = var_same c.in-Var-Var.x c.in-Var-Var.y c.in-Var-Var.is-0 c.in-Var-Var.is-1 c.if-x-y.true

pub unify_heads-returns-in-Var-default : goal.unify_heads-returns-in-Var-default
unify_heads-returns-in-Var-default t c =
    var_else c.in-Var-default.x _ c.in-Var-default.is-0 (λ q. search rules) (λ q. search rules) (search rules) c.bind_var.ensures

pub unify_heads-returns-in_default-Var : goal.unify_heads-returns-in_default-Var
unify_heads-returns-in_default-Var t c =
    else_var c.in_default-Var.y c.in_default-Var.is-1 (c.in_default-Var.not-Var-0, λ q. search rules) c.bind_var-in_default-Var.ensures

pub unify_heads-returns-in_default : goal.unify_heads-returns-in_default
unify_heads-returns-in_default t c =
    shapes (c.in_default.not-Var-0, c.in_default.not-Error-0) (c.in_default.not-Var-1, c.in_default.not-Error-1) c.unify_shapes.ensures

pub unify_shapes-returns-in-Record-Record : goal.unify_shapes-returns-in-Record-Record
unify_shapes-returns-in-Record-Record t c =
    record_record c.in-Record-Record.c c.in-Record-Record.d c.in-Record-Record.is-0 c.in-Record-Record.is-1 c.unify_record.ensures

pub unify_shapes-returns-in-Union-Union : goal.unify_shapes-returns-in-Union-Union
unify_shapes-returns-in-Union-Union t c = union_union c.in-Union-Union.c c.in-Union-Union.d c.in-Union-Union.is-0 c.in-Union-Union.is-1 c.unify_union.ensures

pub unify_shapes-returns-in_default : goal.unify_shapes-returns-in_default
unify_shapes-returns-in_default t c = shapes_same (λ x y p q. search rules, λ x y p q. search rules) (search rules)

pub unify_shapes-returns-in_default-2 : goal.unify_shapes-returns-in_default-2
unify_shapes-returns-in_default-2 t c = rw c.fail.ensures (shapes_differ (λ x y p q. search rules, λ x y p q. search rules) (λ q. search rules))

pub unify_record-returns-then-n-count : goal.unify_record-returns-then-n-count
unify_record-returns-then-n-count t c = record_same c.count-n.ensures c.count.ensures c.if-n-count.true c.unify_fields.ensures

pub unify_record-returns-else-n-count : goal.unify_record-returns-else-n-count
unify_record-returns-else-n-count t c = rw c.fail.ensures (record_differs c.count-n.ensures c.count.ensures c.if-n-count.false)

pub unify_next-returns-then-is : goal.unify_next-returns-then-is
unify_next-returns-then-is t c =
    let same = c.is.ensures.0 c.if-is.true in rw (c.spend.ensures.why, same.0, same.1) (next_again same.2 c.spend.result c.spend.ensures.rest)

pub unify_next-returns-in_err-rest : goal.unify_next-returns-in_err-rest
unify_next-returns-in_err-rest t c = let out : c.from_residual.result ≡ None = grind arith in rw out (next_fails c.in_err-rest.ensures)

pub unify_next-returns : goal.unify_next-returns
unify_next-returns t c = next_new c.in_ok-rest.ensures c.snapshot-log.ensures refl

pub unify_fields-loop-j-init : goal.unify_fields-loop-j-init
unify_fields-loop-j-init t c = rw c.new-last.ensures (fields_start (settled_errors _))

pub unify_fields-returns-in_default : goal.unify_fields-returns-in_default
unify_fields-returns-in_default t c =
    rw c.fail.ensures (fields_unknown c.loop-j.invariant c.loop-j-test.true c.field-p.ensures (place_none c.place_of.ensures c.in_default.is) refl)

pub unify_fields-returns-in_err-rest : goal.unify_fields-returns-in_err-rest
unify_fields-returns-in_err-rest t c =
    let out : c.from_residual.result ≡ None = grind arith in
    let X = place_here c.place_of.ensures c.in-Some.i c.field.result c.in-Some.is c.field.ensures in
    rw out (fields_stop c.loop-j.invariant c.loop-j-test.true c.field-p.ensures X refl c.in_err-rest.ensures (λ l z. clash (cc z)))

pub unify_fields-loop-j-preserved : goal.unify_fields-loop-j-preserved
unify_fields-loop-j-preserved t c =
    let X = place_here c.place_of.ensures c.in-Some.i c.field.result c.in-Some.is c.field.ensures in
    fields_next c.loop-j.invariant c.loop-j-test.true c.field-p.ensures X refl c.in_ok-rest.ensures c.in_ok-rest.rest refl

pub unify_fields-returns : goal.unify_fields-returns
unify_fields-returns t c = fields_end c.loop-j.invariant c.loop-j-test.false

pub unify_union-loop-k-init : goal.unify_union-loop-k-init
unify_union-loop-k-init t c = (rw c.new-last.ensures (union_start (settled_errors _)), passed_start _ _ _, passed_start _ _ _)

pub unify_union-place_after-requires : goal.unify_union-place_after-requires
unify_union-place_after-requires t c = passed_later _ c.loop-k.invariant.1 c.in-Some.ensures.above

pub unify_union-place_after-requires-in-Some : goal.unify_union-place_after-requires-in-Some
unify_union-place_after-requires-in-Some t c = passed_later _ c.loop-k.invariant.2 c.in-Some.ensures.above

pub unify_union-returns-in-None-None : goal.unify_union-returns-in-None-None
unify_union-returns-in-None-None t c = union_nowhere c.loop-k.invariant.0 c.next_discriminant.ensures c.in-Some.is
    (place_none c.place_after.ensures c.in-None-None.is-0) (place_none c.place_after-in-Some.ensures c.in-None-None.is-1)

pub unify_union-returns-in-None-Some : goal.unify_union-returns-in-None-Some
unify_union-returns-in-None-Some t c = rw c.fail-in-None-Some.ensures (union_stop c.loop-k.invariant.0 c.next_discriminant.ensures c.in-Some.is
    (in_expected (place_none c.place_after.ensures c.in-None-Some.is-0)
    (place_here c.place_after-in-Some.ensures c.in-None-Some.b c.alternative-in-None-Some.result c.in-None-Some.is-1 c.alternative-in-None-Some.ensures)
    c.alternative-in-None-Some.result refl refl (ap Err c.differ-in-None-Some.ensures))
    (λ l z. clash (cc z)))

pub unify_union-returns-in-Some-None : goal.unify_union-returns-in-Some-None
unify_union-returns-in-Some-None t c = rw c.fail.ensures (union_stop c.loop-k.invariant.0 c.next_discriminant.ensures c.in-Some.is
    (in_found (place_here c.place_after.ensures c.in-Some-None.a c.alternative.result c.in-Some-None.is-0 c.alternative.ensures)
    (place_none c.place_after-in-Some.ensures c.in-Some-None.is-1) c.alternative.result refl refl (ap Err c.differ.ensures))
    (λ l z. clash (cc z)))

pub unify_union-returns-then-p-q : goal.unify_union-returns-then-p-q
unify_union-returns-then-p-q t c =
    let X = place_here c.place_after.ensures c.in-Some-Some.a c.alternative-p.result c.in-Some-Some.is-0 c.alternative-p.ensures in
    let Y = place_here c.place_after-in-Some.ensures c.in-Some-Some.b c.alternative-q.result c.in-Some-Some.is-1 c.alternative-q.ensures in
    rw c.fail-then-p-q.ensures (union_stop c.loop-k.invariant.0 c.next_discriminant.ensures c.in-Some.is
    (renamed X Y c.alternative-p.result c.alternative-q.result refl refl c.if-p-q.true (ap Err c.differ-then-p-q.ensures))
    (λ l z. clash (cc z)))

pub unify_union-returns-in-Bad : goal.unify_union-returns-in-Bad
unify_union-returns-in-Bad t c =
    let X = place_here c.place_after.ensures c.in-Some-Some.a c.alternative-p.result c.in-Some-Some.is-0 c.alternative-p.ensures in
    let Y = place_here c.place_after-in-Some.ensures c.in-Some-Some.b c.alternative-q.result c.in-Some-Some.is-1 c.alternative-q.ensures in
    let mapped : Err c.differ-in-Bad.result ≡ in_payload c.args.c c.args.d (UnionDiff.Payload c.alternative-p.result.label c.in-Some.k)
    (ok_or c.unify_next.result c.unify_next.new.why) = grind arith in
    union_payload c.loop-k.invariant.0 c.next_discriminant.ensures c.in-Some.is X Y c.if-p-q.false c.unify_next.ensures _ mapped (λ l z. clash (cc z))

pub unify_union-returns-in_default-why : goal.unify_union-returns-in_default-why
unify_union-returns-in_default-why t c =
    let X = place_here c.place_after.ensures c.in-Some-Some.a c.alternative-p.result c.in-Some-Some.is-0 c.alternative-p.ensures in
    let Y = place_here c.place_after-in-Some.ensures c.in-Some-Some.b c.alternative-q.result c.in-Some-Some.is-1 c.alternative-q.ensures in
    let mapped : Err c.unify_next.new.why ≡ in_payload c.args.c c.args.d (UnionDiff.Payload c.alternative-p.result.label c.in-Some.k)
    (ok_or c.unify_next.result c.unify_next.new.why) = grind arith in
    union_payload c.loop-k.invariant.0 c.next_discriminant.ensures c.in-Some.is X Y c.if-p-q.false c.unify_next.ensures _ mapped (λ l z. clash (cc z))

pub unify_union-loop-k-preserved : goal.unify_union-loop-k-preserved
unify_union-loop-k-preserved t c =
    let above = c.in-Some.ensures.above in
    let X = place_here c.place_after.ensures c.in-Some-Some.a c.alternative-p.result c.in-Some-Some.is-0 c.alternative-p.ensures in
    let Y = place_here c.place_after-in-Some.ensures c.in-Some-Some.b c.alternative-q.result c.in-Some-Some.is-1 c.alternative-q.ensures in
    let past = passed_next c.loop-k.invariant.1 c.in-Some-Some.a _ above (sym (ap (λ (x : Part). x.key) c.alternative-p.ensures) ∙ X.has) c.after-i.ensures in
    let past' = passed_next c.loop-k.invariant.2 c.in-Some-Some.b _ above (sym (ap (λ (x : Part). x.key) c.alternative-q.ensures) ∙ Y.has) c.after-j.ensures in
    let good : ok_or c.unify_next.result c.unify_next.new.why ≡ Ok c.in-Some-unify_next.l = grind arith in
    rw c.from-from.ensures (
      union_next c.loop-k.invariant.0 c.next_discriminant.ensures c.in-Some.is X Y c.if-p-q.false c.unify_next.ensures _ good,
      passed_keeps c.unify_next.ensures.keeps past,
      passed_keeps c.unify_next.ensures.keeps past',
    )

pub unify_union-returns : goal.unify_union-returns
unify_union-returns t c = union_end c.loop-k.invariant.0 c.next_discriminant.ensures c.in_default.is
