-- What the first pair tells, and what was written of it.
use Rattle.std.proofs.Common.{refl}
use Rattle.plain.specs.declared.Next.TheVariants.{Bind, Split}
use Rattle.plain.proofs.Staging.{lays_as, stays_as, too_few}
use Rattle.plain.proofs.take_turn.Goals as goal

pub returns-in-Drop : goal.returns-in-Drop
returns-in-Drop c = (c.in-Drop.rest, c.in-Drop.ensures, refl)

pub returns-in_err-b-in-Bind : goal.returns-in_err-b-in-Bind
returns-in_err-b-in-Bind c =
    let e = c.in_err-b-in-Bind.ensures in
    rw (too_few _ _ c.from_residual.ensures.1 e.ok_part e.value)
    (Bind c.in-Bind.x c.in-Bind.ts c.in-Bind.rest, c.in-Bind.ensures, lays_as e.ok_part c.bind.ensures.lays)

pub returns-in_ok-b-in-Bind : goal.returns-in_ok-b-in-Bind
returns-in_ok-b-in-Bind c =
    let e = c.in_ok-b-in-Bind.ensures.ok_part in
    (c.in-Bind.x, c.in-Bind.ts, c.in-Bind.rest, c.in-Bind.ensures, lays_as e c.bind.ensures.lays, stays_as e c.bind.ensures.stays)

pub returns-in_err-b-in-Split : goal.returns-in_err-b-in-Split
returns-in_err-b-in-Split c =
    let e = c.in_err-b-in-Split.ensures in
    let s = c.in-Split in
    rw (too_few _ _ c.from_residual-in_err-b-in-Split.ensures.1 e.ok_part e.value)
    (Split s.n s.left s.right s.rest, s.ensures, λ qs rows. lays_as e.ok_part (c.split.ensures.lays qs rows))

pub returns-in_ok-b-in-Split : goal.returns-in_ok-b-in-Split
returns-in_ok-b-in-Split c =
    let e = c.in_ok-b-in-Split.ensures.ok_part in
    let s = c.in-Split in
    (s.n, s.left, s.right, s.rest, s.ensures, (λ qs rows. lays_as e (c.split.ensures.lays qs rows)), stays_as e c.split.ensures.stays)
