use Rattle.std.proofs.Common.{sym}
use Rattle.writer.proofs.Writing.{writes_as}
use Rattle.plain.proofs.Passes.{left_next, left_full, swap_short, swap_long, swap_last}
use Rattle.plain.proofs.replace.Goals as goal

pub returns-in_err-to : goal.returns-in_err-to
returns-in_err-to c = rw c.from_residual.ensures
    (left_full _ _ c.loop-rest.invariant (swap_short c.args.x c.args.ts.now _ c.in-len2-up.len_at_least c.if-is_short.ensures) c.in_err-to.ensures)

pub loop-rest-preserved-then-is_short : goal.loop-rest-preserved-then-is_short
loop-rest-preserved-then-is_short c =
    left_next _ _ c.loop-rest.invariant (swap_short c.args.x c.args.ts.now _ c.in-len2-up.len_at_least c.if-is_short.ensures) c.in_ok-to.ensures

pub returns-in_err-to-2 : goal.returns-in_err-to-2
returns-in_err-to-2 c = rw c.from_residual-in_err-to-2.ensures
    (left_full _ _ c.loop-rest.invariant (swap_long c.args.x c.args.ts.now _ c.in-len2-up.len_at_least c.if-is_short.ensures) c.in_err-to-2.ensures)

pub loop-rest-preserved : goal.loop-rest-preserved
loop-rest-preserved c =
    left_next _ _ c.loop-rest.invariant (swap_long c.args.x c.args.ts.now _ c.in-len2-up.len_at_least c.if-is_short.ensures) c.in_ok-to-2.ensures

pub returns : goal.returns
returns c = c.loop-rest.invariant _ _ (writes_as (sym (swap_last c.args.x c.args.ts.now _ c.in_default.len_below)) c.copy.ensures)
