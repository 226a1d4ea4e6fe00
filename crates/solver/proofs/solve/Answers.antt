-- Shut out where a mark is missing; else as the engine ends.
use Rattle.std.proofs.Common.{◌≡◌, min, length}
use Rattle.std.specs.Result.{result_unwrap_or}
use Rattle.writer.proofs.Writing.{cleared}
use Rattle.solver.proofs.Solving.{got_shut, expected_shut, solve_runs}
use Rattle.solver.proofs.solve.Goals as goal
use Rattle.solver.proofs.solve.Goals.{then-good+then-good-2, else-good, else-good-via-then-good+else-good-2, else-good-via-else-good}

pub returns : goal.returns
returns c =
    let zeros = cleared c.if-good.l c.fill.new.self c.min-end.result (c.fill.ensures.after (λ y e. e)) in
    let end : c.min-end.result ≡ min (result_unwrap_or c.if-good.solved 0) (length c.if-good.l) = rw (← c.unwrap_or.ensures) c.min-end.ensures in
    elim c.if-good.branch [
      | then-good+then-good-2 w ↦ solve_runs c.settle.ensures c.if-good.l end zeros c.good.ensures w.if-good.true w.good-then-good.ensures w.if-good-2.true
          (rw (w.l-is, w.solved-is) w.engine-solved.ensures)
      | else-good w ↦ elim w.else-good.branch [
        | else-good-via-then-good+else-good-2 w' ↦ expected_shut c.settle.ensures c.if-good.l end zeros w.l-is w.solved-is w'.good-then-good.ensures
            w'.if-good-2.false
        | else-good-via-else-good w' ↦ got_shut c.settle.ensures c.if-good.l end zeros w.l-is w.solved-is c.good.ensures w'.if-good.false
      ]
    ]
