use Rattle.std.proofs.Common.{rules}
use Rattle.cabinet.proofs.Groups.{others_left}
use Rattle.cabinet.proofs.Seat.others.Goals as goal

pub returns : goal.returns
returns c = let s = c.self.inside in rw (← c.self.view_is) (cc (others_left s.group s.desk (search rules) (search rules)))
