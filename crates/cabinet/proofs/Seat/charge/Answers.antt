use Rattle.cabinet.proofs.Groups.{charged_valid}
use Rattle.cabinet.proofs.Seat.charge.Goals as goal

pub invariant_of-self : goal.invariant_of-self
invariant_of-self c =
    let s = c.self.inside in
    (charged_valid s.group s.desk c.args.visits c.self.invariant.0 c.self.invariant.1 (rw (← c.self.view_is) at c.requires), c.self.invariant.1)
