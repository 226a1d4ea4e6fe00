-- Not read, a number above 65,535, or written.
use mathlib.Core.Path.{refl}
use Rattle.std.proofs.lemmas.Result.{err_from_is_err_and}
use Rattle.converters.proofs.Running.{not_read, narrow_above, narrow_written, widen_written}
use Rattle.converters.proofs.run.Goals as goal
use Rattle.converters.proofs.run.Goals.{in_default-via-in-Wide+else-some_above, in_default-via-in_default}

pub returns-in_err-read_file : goal.returns-in_err-read_file
returns-in_err-read_file c =
    let p = err_from_is_err_and c.from_residual.result c.from_residual.ensures.1 in
    rw (p.1, p.2) (not_read c.args.from _ c.in_err-read_file.ensures refl)

pub returns-in-Wide : goal.returns-in-Wide
returns-in-Wide c = rw c.in-Wide.is (narrow_above (rw c.in-Wide.is at c.in_ok-read_file.ensures) refl c.some_above.ensures c.if-some_above.true)

pub returns-in_default : goal.returns-in_default
returns-in_default c = rw c.ok_or.ensures.value (elim c.in_default.branch [
  | in_default-via-in-Wide+else-some_above w ↦ rw w.in-Wide.is
      (narrow_written (rw w.in-Wide.is at c.in_ok-read_file.ensures) refl w.some_above.ensures _ w.if-some_above.false
      (rw w.in-Wide.is at c.convert.ensures))
  | in_default-via-in_default w ↦ rw w.in_default.is
      (widen_written _ (rw w.in_default.is at c.in_ok-read_file.ensures) refl (rw w.in_default.is at c.convert.ensures))
])
