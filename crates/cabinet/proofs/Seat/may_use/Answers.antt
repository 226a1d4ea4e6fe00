-- By validity neither difference falls below 0.
use Rattle.std.proofs.Common.{arith}
use Rattle.cabinet.proofs.Groups.{beside}
use Rattle.cabinet.proofs.Seat.may_use.Goals as goal

pub overflow_sub-rest : goal.overflow_sub-rest
overflow_sub-rest c = let s = c.self.inside in omega (arith, beside s.group c.self.invariant.0 s.desk c.self.invariant.1)

pub overflow_sub-rest-2 : goal.overflow_sub-rest-2
overflow_sub-rest-2 c =
    let s = c.self.inside in let o = rw (← c.self.view_is) at c.others.ensures in omega (arith, beside s.group c.self.invariant.0 s.desk c.self.invariant.1)
