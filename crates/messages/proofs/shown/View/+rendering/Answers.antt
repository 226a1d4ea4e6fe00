use Rattle.std.proofs.Common.{refl, arith}
use Rattle.unification.specs.Ty as Tree
use Rattle.cells.specs.declared.Kind.TheVariants.{Fields, Alternatives}
use Rattle.format.specs.Bytes.{ascii}
use Rattle.meaning.specs.Messages.{render, render_leaf}
use Rattle.messages.proofs.Showing.{shows_where, shows_text}
use Rattle.messages.proofs.Rendering.{leaf_shown, var_shown, error_shown, render_as, render_cell, cell_start, before_full, type_full, after_full, after_cut}
use Rattle.messages.proofs.Rendering.{after_parted, after_last, part_next, parts_done, brace_full, brace_moves, brace_then}
use Rattle.messages.proofs.shown.View.+rendering.Goals as goal
use Rattle.messages.proofs.shown.View.+rendering.Goals.{cell-then-j-n+in_ok-to-5, cell-else-j-n}

-- ---- A cell

pub cell-returns-in_err-to : goal.cell-returns-in_err-to
cell-returns-in_err-to t c = rw c.from_residual.ensures (brace_full c.args.b c.args.k c.args.c c.byte.ensures c.in_err-to.was)

pub cell-loop-j-init : goal.cell-loop-j-init
cell-loop-j-init t c = cell_start _ _ _ _ _ _ _ _ c.count-n.ensures

pub cell-returns-in_err-to-2 : goal.cell-returns-in_err-to-2
cell-returns-in_err-to-2 t c = rw c.from_residual-in_err-to-2.ensures (brace_then c.args.b c.args.k c.args.c c.byte.ensures c.in_ok-to.was
    (before_full c.loop-j.invariant c.part_at-p.result c.loop-j-test.true c.part_at-p.ensures c.before-in-loop-j.ensures c.in_err-to-2.was))

pub cell-render-requires : goal.cell-render-requires
cell-render-requires t c =
    let brace = c.byte.ensures in
    omega (
      arith,
      brace_moves brace c.in_ok-to.was,
      c.loop-j.invariant.showing.moves.onward _ refl,
      c.loop-j.invariant.showing.moves.long,
      c.byte.ensures.long,
      c.before-in-loop-j.ensures.moves.onward _ c.in_ok-to-2.was,
      c.before-in-loop-j.ensures.moves.long,
    )

pub cell-returns-in_err-to-3 : goal.cell-returns-in_err-to-3
cell-returns-in_err-to-3 t c = rw c.from_residual-in_err-to-3.ensures (brace_then c.args.b c.args.k c.args.c c.byte.ensures c.in_ok-to.was
    (type_full c.loop-j.invariant c.part_at-p.result c.loop-j-test.true c.part_at-p.ensures c.before-in-loop-j.ensures c.in_ok-to-2.was c.render.ensures
    c.in_err-to-3.was))

pub cell-returns-in_err-to-4 : goal.cell-returns-in_err-to-4
cell-returns-in_err-to-4 t c = rw c.from_residual-in_err-to-4.ensures (brace_then c.args.b c.args.k c.args.c c.byte.ensures c.in_ok-to.was
    (after_full c.loop-j.invariant c.part_at-p.result c.loop-j-test.true c.part_at-p.ensures c.before-in-loop-j.ensures c.in_ok-to-2.was c.render.ensures
    c.in_ok-to-3.was
    (after_cut c.args.k c.part_at-p.result.key c.after.ensures _ c.in_err-to-4.was) refl))

pub cell-returns-in_err-to-5 : goal.cell-returns-in_err-to-5
cell-returns-in_err-to-5 t c = rw c.from_residual-in_err-to-5.ensures (brace_then c.args.b c.args.k c.args.c c.byte.ensures c.in_ok-to.was
    (after_full c.loop-j.invariant c.part_at-p.result c.loop-j-test.true c.part_at-p.ensures c.before-in-loop-j.ensures c.in_ok-to-2.was c.render.ensures
    c.in_ok-to-3.was
    (after_parted c.args.k c.part_at-p.result.key c.after.ensures c.in_ok-to-4.was _ _ c.if-j-n.true (rw c.between.ensures at c.text.ensures))
    c.in_err-to-5.was))

pub cell-loop-j-preserved : goal.cell-loop-j-preserved
cell-loop-j-preserved t c = elim c.if-j-n.branch [
  | cell-then-j-n+in_ok-to-5 w ↦ rw (w.out-is, w.to-is)
      (part_next c.loop-j.invariant c.part_at-p.result c.loop-j-test.true c.part_at-p.ensures c.before-in-loop-j.ensures c.in_ok-to-2.was c.render.ensures
      c.in_ok-to-3.was
      (after_parted c.args.k c.part_at-p.result.key c.after.ensures c.in_ok-to-4.was _ _ w.if-j-n.true (rw w.between.ensures at w.text.ensures))
      w.in_ok-to-5.was)
  | cell-else-j-n w ↦ rw (w.out-is, w.to-is)
      (part_next c.loop-j.invariant c.part_at-p.result c.loop-j-test.true c.part_at-p.ensures c.before-in-loop-j.ensures c.in_ok-to-2.was c.render.ensures
      c.in_ok-to-3.was
      (after_last c.args.k c.part_at-p.result.key c.after.ensures _ _ w.if-j-n.false) c.in_ok-to-4.was)
]

pub cell-returns : goal.cell-returns
cell-returns t c = brace_then c.args.b c.args.k c.args.c c.byte.ensures c.in_ok-to.was (parts_done c.loop-j.invariant c.loop-j-test.false c.byte-2.ensures)

-- ---- A type

pub render-returns-in-Int : goal.render-returns-in-Int
unfolding render render_leaf ascii
render-returns-in-Int t c = render_as c.in-Int.ensures (λ v e. leaf_shown _ _ Tree.Int) (shows_text c.text.ensures)

pub render-returns-in-Str : goal.render-returns-in-Str
unfolding render render_leaf ascii
render-returns-in-Str t c = render_as c.in-Str.ensures (λ v e. leaf_shown _ _ Tree.String) (shows_text c.text-in-Str.ensures)

pub render-returns-in-Bytes : goal.render-returns-in-Bytes
unfolding render render_leaf ascii
render-returns-in-Bytes t c = render_as c.in-Bytes.ensures (λ v e. leaf_shown _ _ Tree.Bytes) (shows_text c.text-in-Bytes.ensures)

pub render-returns-in-Fact : goal.render-returns-in-Fact
unfolding render render_leaf
render-returns-in-Fact t c = render_as c.in-Fact.ensures (λ v e. leaf_shown _ _ (Tree.Fact c.in-Fact.p)) (shows_where (λ v S o. tt) c.fact.ensures)

pub render-returns-in-Record : goal.render-returns-in-Record
render-returns-in-Record t c = render_cell Fields c.in-Record.c c.in-Record.ensures c.cell.ensures

pub render-returns-in-Union : goal.render-returns-in-Union
render-returns-in-Union t c = render_cell Alternatives c.in-Union.c c.in-Union.ensures c.cell-in-Union.ensures

pub render-returns-in-Var : goal.render-returns-in-Var
unfolding render ascii
render-returns-in-Var t c = render_as c.in-Var.ensures (λ v e. var_shown _ _ _ e) (shows_text c.text-in-Var.ensures)

pub render-returns-in-Error : goal.render-returns-in-Error
unfolding render ascii
render-returns-in-Error t c = render_as c.in-Error.ensures (λ v e. error_shown _ _) (shows_text c.text-in-Error.ensures)
