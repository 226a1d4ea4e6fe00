-- The first stage is spelled into the upper half, and the engine runs from there.
use Rattle.std.proofs.Common.{◌≡◌, arith}
use Rattle.plain.specs.declared.Unsolved.{Unsolved}
use Rattle.std.proofs.lemmas.Result.{err_from_is_err_and}
use Rattle.solver.proofs.Halving.{engine_runs, engine_full}
use Rattle.solver.proofs.engine.Goals as goal

pub returns-in_err-sides : goal.returns-in_err-sides
returns-in_err-sides c =
    let f = c.in_err-sides.ensures in
    let p = err_from_is_err_and c.from_residual.result c.from_residual.ensures.1 in
    let v = rw f.ok_part at f.value in
    let e : c.in_err-sides.field-0.0 ≡ Unsolved.TooFew = cc v in
    rw (p.1, p.2, e) (engine_full (omega arith) (omega arith) c.start.ensures f.ok_part)

pub returns : goal.returns
returns c = engine_runs (omega arith) (omega arith) c.start.ensures c.in_ok-sides.ensures.ok_part c.run.ensures
