use Rattle.std.proofs.Common.{inl, inr, arith, ◌∙◌}
use Rattle.writer.proofs.Writing.{goes_start, goes_next, goes_full, goes_done}
use Rattle.generator.proofs.Lines.{kind_at, table_at, table_small, row_there, schema_start, schema_row, schema_end}
use Rattle.generator.proofs.schema.Goals as goal
use Rattle.generator.proofs.schema.Goals.{then-table-eq1, else-table-eq1}

pub loop-l-init : goal.loop-l-init
loop-l-init c = goes_start _ 0 _ _ (omega arith) (schema_start _)

pub overflow_mul-table : goal.overflow_mul-table
unfolding table_at
overflow_mul-table c = record { fits = omega (arith, table_small c.loop-l.l c.loop-l-test.true) }

pub cells-requires : goal.cells-requires
unfolding table_at
cells-requires c = row_there c.args.w.now c.loop-l.l c.if-table-eq1.v c.loop-l-test.true
    (elim c.if-table-eq1.branch [
      | then-table-eq1 w ↦ inl (w.if-table-eq1.true, w.v-is)
      | else-table-eq1 w ↦ inr (w.if-table-eq1.false, w.v-is ∙ w.choice-v.ensures.value, rw w.v-is w.choice-v.ensures.upper_bound)
    ])

pub overflow_add-table : goal.overflow_add-table
overflow_add-table c = record { fits = omega (arith, cells-requires c) }

pub returns-in_err-at : goal.returns-in_err-at
unfolding kind_at table_at
returns-in_err-at c = rw c.from_residual.ensures (goes_full c.loop-l.invariant _ _
    (schema_row c.args.w.now c.loop-l.l c.if-table-eq1.v c.loop-l-test.true (elim c.if-table-eq1.branch [
      | then-table-eq1 w ↦ inl (w.if-table-eq1.true, w.v-is)
      | else-table-eq1 w ↦ inr (w.if-table-eq1.false, w.v-is ∙ w.choice-v.ensures.value, rw w.v-is w.choice-v.ensures.upper_bound)
    ]))
    (rw (c.cells.ensures 0) at c.line.ensures) c.in_err-at.was)

pub loop-l-preserved : goal.loop-l-preserved
unfolding kind_at table_at
loop-l-preserved c = goes_next c.loop-l.invariant _ _
    (schema_row c.args.w.now c.loop-l.l c.if-table-eq1.v c.loop-l-test.true (elim c.if-table-eq1.branch [
      | then-table-eq1 w ↦ inl (w.if-table-eq1.true, w.v-is)
      | else-table-eq1 w ↦ inr (w.if-table-eq1.false, w.v-is ∙ w.choice-v.ensures.value, rw w.v-is w.choice-v.ensures.upper_bound)
    ]))
    (rw (c.cells.ensures 0) at c.line.ensures) c.in_ok-at.was

pub returns : goal.returns
returns c = goes_done c.loop-l.invariant (schema_end _ c.loop-l.l c.loop-l-test.false)
